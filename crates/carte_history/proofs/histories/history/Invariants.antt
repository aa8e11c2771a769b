use Rattle.std.proofs.Common.{take}
use Rattle.carte_history.proofs.Showing.{SoFar}
use Rattle.carte_history.proofs.histories.history.Given as goal

-- the runs so far were shown, and the disk is that which the next one finds
abbrev pub invariant-loop-run : goal.invariant-loop-run
invariant-loop-run g l = SoFar 536870912 (take l.run-index l.runs) l.shown.items l.disk

use Rattle.std.proofs.Common.{take}
use Rattle.carte_mark.specs.Reached.{Meets}
use Rattle.carte_mark.proofs.set.meets.Given as goal

abbrev pub invariant-loop-need : goal.invariant-loop-need
invariant-loop-need l = ¬ (Meets (take l.need-index l.need-items) l.names)

use Rattle.std.proofs.Common.{take}
use Rattle.carte_record.specs.Kept.{kept_view}
use Rattle.carte_restart.specs.Led.{AreNeeded}
use Rattle.carte_restart.proofs.first.needed.Given as goal

abbrev pub invariant-loop-key : goal.invariant-loop-key
invariant-loop-key l = AreNeeded (kept_view l.kept) (take l.key-index l.key-items) l.names

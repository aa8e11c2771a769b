use Rattle.std.proofs.Common.{◌≡◌, ◌++◌, drop}
use Rattle.carte_plan.proofs.cutting.seen_behind.Given as goal

abbrev pub invariant-loop-at : goal.invariant-loop-at
invariant-loop-at l = l.behind ++ drop l.at l.seen ≡ drop l.from l.seen

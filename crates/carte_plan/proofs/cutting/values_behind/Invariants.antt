use Rattle.std.proofs.Common.{◌≡◌, ◌++◌, drop}
use Rattle.carte_plan.proofs.cutting.values_behind.Given as goal

abbrev pub invariant-loop-at : goal.invariant-loop-at
invariant-loop-at l = l.behind ++ drop l.at l.values ≡ drop l.from l.values

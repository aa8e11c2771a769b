use Rattle.carte_plan.specs.Ahead.{StandThere}
use Rattle.carte_plan.proofs.ahead.whose.Given as goal

abbrev pub invariant-loop-at : goal.invariant-loop-at
invariant-loop-at l = StandThere l.book l.finished l.whose.items

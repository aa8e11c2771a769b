use Rattle.std.proofs.Common.{◌≡◌, take}
use Rattle.carte_mark.specs.Reached.{tasks_at}
use Rattle.carte_mark.proofs.tasks.tasks_in_turn.Given as goal

abbrev pub invariant-loop-at : goal.invariant-loop-at
invariant-loop-at l = l.tasks.items ≡ tasks_at l.book (take l.at-index l.places)

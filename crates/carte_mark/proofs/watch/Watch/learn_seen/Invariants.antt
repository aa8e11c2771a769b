use Rattle.carte_mark.specs.Watching.{Grows, suspects_in, users_in}
use Rattle.carte_mark.proofs.Learning.{SeenBefore}
use Rattle.carte_mark.proofs.watch.Watch.learn_seen.Given as goal

abbrev pub invariant-loop-link : goal.invariant-loop-link
invariant-loop-link l =
    Grows (suspects_in l.initial.self) (users_in l.initial.self) (suspects_in l.self) (users_in l.self) × SeenBefore (suspects_in l.self) l.link-items l.link-index

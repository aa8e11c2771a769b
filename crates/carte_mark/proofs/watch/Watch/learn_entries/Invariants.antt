use Rattle.carte_record.specs.Kept.{kept_view}
use Rattle.carte_mark.specs.Tables.{HasUsers}
use Rattle.carte_mark.specs.Watching.{Grows, suspects_in, users_in}
use Rattle.carte_mark.proofs.Learning.{EntriesBefore}
use Rattle.carte_mark.proofs.watch.Watch.learn_entries.Given as goal

abbrev pub invariant-loop-entry : goal.invariant-loop-entry
invariant-loop-entry l =
    Grows (suspects_in l.initial.self) (users_in l.initial.self) (suspects_in l.self) (users_in l.self)
    × (HasUsers (kept_view l.kept) (users_in l.initial.self) → EntriesBefore (suspects_in l.self) (users_in l.self) l.entry-items l.entry-index)

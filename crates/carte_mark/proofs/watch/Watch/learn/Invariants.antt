use Rattle.std.proofs.Common.{take}
use Rattle.carte_record.specs.Kept.{kept_view}
use Rattle.carte_mark.specs.Tables.{HasUsers}
use Rattle.carte_mark.specs.Watching.{Grows, suspects_in, users_in}
use Rattle.carte_mark.proofs.Learning.{KnowsAll}
use Rattle.carte_mark.proofs.watch.Watch.learn.Given as goal

abbrev pub invariant-loop-batch : goal.invariant-loop-batch
invariant-loop-batch l =
    Grows (suspects_in l.fn.self) (users_in l.fn.self) (suspects_in l.watch) (users_in l.watch)
    × (HasUsers (kept_view l.kept) (users_in l.fn.self) → KnowsAll (suspects_in l.watch) (users_in l.watch) (take l.batch-index l.batches))

use Rattle.std.proofs.Common.{◌≡◌, drop}
use Rattle.carte_book.specs.Book.{book_view}
use Rattle.carte_book.specs.Task.{task_now}
use Rattle.carte_sound.specs.Held.{are_so}
use Rattle.carte_rebuild.proofs.tasks.are_tasks.Given as goal

abbrev pub invariant-loop-task : goal.invariant-loop-task
invariant-loop-task l = are_so (task_now (book_view l.book)) l.tasks ≡ are_so (task_now (book_view l.book)) (drop l.task-index l.task-items)

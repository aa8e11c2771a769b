use Rattle.std.proofs.Common.{◌≡◌, ℕ}
use Rattle.carte_book.specs.Book.{book_view}
use Rattle.carte_book.specs.Places.{task_at}
use Rattle.carte_mark.proofs.tasks.learn_each.Given as goal

abbrev pub invariant-loop-at : goal.invariant-loop-at
invariant-loop-at l = (book_view l.book ≡ book_view l.fn.book) × ((at : ℕ) → task_at l.book at ≡ task_at l.fn.book at)

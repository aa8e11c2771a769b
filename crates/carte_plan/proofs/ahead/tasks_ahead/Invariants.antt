use Rattle.carte_book.specs.Book.{book_view}
use Rattle.carte_plan.specs.Ahead.{AreAhead}
use Rattle.carte_plan.proofs.ahead.tasks_ahead.Given as goal

abbrev pub invariant-loop-at : goal.invariant-loop-at
invariant-loop-at g l = AreAhead (book_view l.book) l.finished l.tasks.items

use Rattle.std.proofs.Common.{take}
use Rattle.carte_book.specs.Book.{book_view}
use Rattle.carte_engine.specs.Answers.{AreValues}
use Rattle.carte_engine.specs.Reckoned.{value_found}
use Rattle.carte_engine.proofs.reckon.values.Given as goal

abbrev pub invariant-loop-name : goal.invariant-loop-name
invariant-loop-name l = AreValues (value_found (book_view l.book) l.finished) (take l.name-index l.name-items) l.values

use Rattle.std.proofs.Common.{length}
use Rattle.carte_book.specs.Book.{book_view}
use Rattle.carte_note.specs.Methods.{how_of}
use Rattle.carte_plan.specs.Ahead.{AreAhead}
use Rattle.carte_plan.proofs.Pieces.{IsCutting}
use Rattle.carte_plan.proofs.cutting.in_parts.Given as goal

abbrev pub invariant-loop-rest : goal.invariant-loop-rest
invariant-loop-rest g l = IsCutting (how_of l.method) (book_view l.book) l.kept l.finished l.rest l.fn.opened l.batch l.full.items × AreAhead (book_view l.book) l.rest l.tasks

abbrev pub decreases-loop-rest : goal.decreases-loop-rest
decreases-loop-rest g l = length l.rest

use Rattle.std.proofs.Common.{◌≡◌, take}
use Rattle.carte_book.specs.Book.{book_view}
use Rattle.carte_note.specs.Methods.{how_of}
use Rattle.carte_plan.specs.Cuts.{with_all}
use Rattle.carte_plan.proofs.cutting.note_part.Given as goal

abbrev pub invariant-loop-at : goal.invariant-loop-at
invariant-loop-at l = l.batch ≡ with_all (how_of l.method) (book_view l.book) l.kept (take l.at l.part) l.initial.batch

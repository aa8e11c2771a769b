use Rattle.carte_book.specs.Book.{book_view}
use Rattle.carte_record.specs.Kept.{kept_view}
use Rattle.carte_mark.proofs.Changing.{AreChangedBefore}
use Rattle.carte_mark.proofs.changed.changed_inputs.Given as goal

abbrev pub invariant-loop-link : goal.invariant-loop-link
invariant-loop-link l = AreChangedBefore (kept_view l.kept) (book_view l.book) l.link-items l.link-index l.names

use Rattle.carte_book.specs.Book.{book_view}
use Rattle.carte_record.specs.Kept.{kept_view}
use Rattle.carte_mark.proofs.OtherTasks.{AreOthersBefore}
use Rattle.carte_mark.proofs.tasks.put_changed_rules.Given as goal

abbrev pub invariant-loop-entry : goal.invariant-loop-entry
invariant-loop-entry l = AreOthersBefore (kept_view l.kept) (book_view l.book) l.entry-items l.entry-index l.initial.names l.names

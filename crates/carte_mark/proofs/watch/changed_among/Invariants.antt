use Rattle.std.proofs.Common.{take}
use Rattle.carte_book.specs.Book.{book_view}
use Rattle.carte_record.specs.Kept.{kept_view}
use Rattle.carte_sound.specs.Marks.{IsChanged}
use Rattle.carte_mark.specs.Marking.{ArePicked}
use Rattle.carte_mark.proofs.watch.changed_among.Given as goal

abbrev pub invariant-loop-name : goal.invariant-loop-name
invariant-loop-name l = ArePicked (IsChanged (kept_view l.kept) (book_view l.book)) (take l.name-index l.name-items) l.names.items

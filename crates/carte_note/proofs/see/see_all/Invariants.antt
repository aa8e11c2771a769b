use Rattle.std.proofs.Common.{◌≡◌, take}
use Rattle.carte_value.specs.Lists.{Begins}
use Rattle.carte_book.specs.Book.{book_view}
use Rattle.carte_note.specs.Writes.{all_seen}
use Rattle.carte_note.proofs.see.see_all.Given as goal

abbrev pub invariant-loop-link : goal.invariant-loop-link
invariant-loop-link l = Begins l.initial.seen l.seen × (l.seen ≡ all_seen (book_view l.book) l.kept (take l.link-index l.link-items) l.initial.seen)

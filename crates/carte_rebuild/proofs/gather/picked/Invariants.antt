use Rattle.std.proofs.Common.{◌≡◌, take}
use Rattle.carte_book.specs.Book.{book_view}
use Rattle.carte_rebuild.specs.Gathering.{picked}
use Rattle.carte_rebuild.proofs.gather.picked.Given as goal

abbrev pub invariant-loop-link : goal.invariant-loop-link
invariant-loop-link l = l.some ≡ picked l.role (book_view l.book) (take l.link-index l.link-items)

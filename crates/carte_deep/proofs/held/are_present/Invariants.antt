use Rattle.std.proofs.Common.{◌≡◌, drop}
use Rattle.carte_book.specs.Book.{book_view}
use Rattle.carte_sound.specs.Marks.{present}
use Rattle.carte_sound.specs.Held.{are_so}
use Rattle.carte_deep.proofs.held.are_present.Given as goal

abbrev pub invariant-loop-link : goal.invariant-loop-link
invariant-loop-link l = are_so (present (book_view l.book)) l.links ≡ are_so (present (book_view l.book)) (drop l.link-index l.link-items)

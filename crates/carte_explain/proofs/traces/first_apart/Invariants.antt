use Rattle.std.proofs.Common.{◌≡◌, take, None}
use Rattle.std.specs.Prelude.{find}
use Rattle.carte_book.specs.Book.{book_view}
use Rattle.carte_explain.specs.Found.{digest_found, is_apart}
use Rattle.carte_explain.proofs.traces.first_apart.Given as goal

abbrev pub invariant-loop-link : goal.invariant-loop-link
invariant-loop-link l = find (is_apart (digest_found l.way (book_view l.book) l.finished)) (take l.link-index l.links) ≡ None

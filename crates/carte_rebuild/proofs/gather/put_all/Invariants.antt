use Rattle.std.proofs.Common.{◌≡◌, take}
use Rattle.carte_book.specs.Book.{book_view}
use Rattle.carte_rebuild.specs.Gathering.{put_links, brought_by}
use Rattle.carte_rebuild.proofs.gather.put_all.Given as goal

abbrev pub invariant-loop-link : goal.invariant-loop-link
invariant-loop-link l = l.gathered.entries ≡ put_links l.initial.gathered.entries (brought_by l.role (book_view l.book) l.before (take l.link-index l.link-items))

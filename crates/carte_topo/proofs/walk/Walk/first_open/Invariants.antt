use Rattle.std.proofs.Common.{take}
use Rattle.carte_book.specs.Book.{book_view}
use Rattle.carte_topo.specs.Walk.{AllReady}
use Rattle.carte_topo.proofs.walk.Walk.first_open.Given as goal

abbrev pub invariant-loop-at : goal.invariant-loop-at
invariant-loop-at l = AllReady (book_view l.book) l.self.done (take l.at l.refs)

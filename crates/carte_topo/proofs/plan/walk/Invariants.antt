use Rattle.std.proofs.Common.{ℕ, List, take}
use Rattle.carte_value.specs.Truths.{Among}
use Rattle.carte_book.specs.Book.{book_view}
use Rattle.carte_topo.specs.Walk.{seen_in}
use Rattle.carte_topo.specs.Orders.{IsReady}
use Rattle.carte_topo.specs.Between.{IsBetween}
use Rattle.carte_topo.proofs.plan.walk.Given as goal

abbrev pub invariant-loop-at : goal.invariant-loop-at
invariant-loop-at l = IsBetween (book_view l.book) l.targets (seen_in l.walk.stages) l.walk.path.items l.walk.done × ((k : List ℕ) → Among (take l.at l.targets) k → IsReady (book_view l.book) l.walk.done k)

use Rattle.std.proofs.Common.{◌≡◌, ℕ, List, slice_get, Some}
use Rattle.carte_book.specs.Book.{book_view}
use Rattle.carte_topo.specs.Walk.{seen_in}
use Rattle.carte_topo.proofs.Turning.{IsTurning, left}
use Rattle.carte_topo.proofs.walk.Walk.reach.Given as goal

abbrev pub invariant-turns : goal.invariant-turns
invariant-turns l = (goal : List ℕ) → slice_get l.fn.targets l.fn.at ≡ Some goal → IsTurning (book_view l.book) l.fn.targets goal (seen_in l.self.stages) l.self.path.items l.fn.self.done l.self.done

abbrev pub decreases-turns : goal.decreases-turns
decreases-turns l = left (book_view l.book) l.self.path.items l.self.done

use Rattle.std.proofs.Common.{◌≡◌, ℕ, ◌-◌, ◌<◌, length, get_or, slice_get, None}
use Rattle.carte_book.specs.Book.{book_view}
use Rattle.carte_table.specs.Lookups.{first_value}
use Rattle.carte_deep.specs.Holding.{given_by}
use Rattle.carte_deep.proofs.held.held.Given as goal

abbrev pub invariant-loop-newer : goal.invariant-loop-newer
invariant-loop-newer l = (i : ℕ) → i < l.newer → given_by (first_value l.kept.values) (book_view l.book) l.key (slice_get l.kept.deep (get_or l.places (length l.places - 1 - i) 0)) ≡ None

-- What a bench holds.
use Rattle.std.specs.Prelude.{ℕ, ◌≡◌, List, Option, Some, None, slice_get}
use Rattle.std.specs.HashMap.{get}
use Rattle.carte_name.specs.Names.{name_eq}
use Rattle.carte_book.specs.Book.{Book, book_view}
use Rattle.carte_bench.specs.declared.bench.Bench.{Bench}
use Rattle.carte_bench.specs.declared.look.Shown.{Shown}
use Rattle.carte_bench.specs.Spots.{Spots}

abbrev pub spots_of : {J : Type 0} → Bench J → Spots J
spots_of b k = get name_eq b.slots k

abbrev pub book_of : {J : Type 0} → Bench J → Book
book_of b = book_view b.book.now

abbrev pub shown_spots : {J : Type 0} → Shown J → Spots J
shown_spots s k = get name_eq s.slots.now k

abbrev pub shown_book : {J : Type 0} → Shown J → Book
shown_book s = book_view s.book.now

abbrev pub with_name : {X : Type 0} → List ℕ → Option X → Option (List ℕ × X)
with_name k None = None
with_name k (Some x) = Some (k, x)

-- the slot of the name, if it has one, is the one at this place
abbrev pub IsAt : {J : Type 0} → Bench J → List ℕ → ℕ → Type 0
IsAt b k at = slice_get b.slots.entries at ≡ with_name k (spots_of b k)

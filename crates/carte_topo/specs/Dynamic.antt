-- The written references that lead on towards a dynamic rule, and what is answered of the first path to one.
use Rattle.std.specs.Prelude.{ℕ, List, [], Option, Some, None, if◌then◌else◌}
use Rattle.carte_tree.specs.Formula.{refs_of, is_static_tree}
use Rattle.carte_book.specs.Book.{Item, input, rule, Book, content}
use Rattle.carte_book.specs.Dynamic.{NoDynamicPath, IsFirstDynamicPath}

abbrev pub refs_found : Option Item → List (List ℕ)
refs_found None = []
refs_found (Some (input v)) = []
refs_found (Some (rule e)) = if is_static_tree e then refs_of e else []

-- the written references of a static rule; none of anything else
abbrev pub static_refs : Book → List ℕ → List (List ℕ)
static_refs b k = refs_found (content b k)

abbrev pub IsDynamicAnswer : Book → List (List ℕ) → Option (List (List ℕ)) → Type 0
IsDynamicAnswer b targets (Some path) = IsFirstDynamicPath b targets path
IsDynamicAnswer b targets None = NoDynamicPath b targets

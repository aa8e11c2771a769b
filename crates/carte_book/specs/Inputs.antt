-- The names of a book's inputs, which are asked for apart from the book.
use Rattle.std.specs.Prelude.{ℕ, ◌≡◌, Bool, true, false, List, Option, Some, None, IsTrue, ⊤}
use Rattle.std.specs.Coded.{Unit-prop}
use Rattle.std.specs.List.{AllByRecursion, AllByRecursion-prop, list_any}
use Rattle.carte_name.specs.Names.{name_eq}
use Rattle.carte_book.specs.Alike.{truth_alike}
use Rattle.carte_book.specs.Content.{Item, input, rule}

abbrev pub has_name : List (List ℕ) → List ℕ → Bool
has_name ns k = list_any (name_eq k) ns

-- an input's name is among these
abbrev pub IsListed : List (List ℕ) → List ℕ → Item → Type 0
IsListed ns k (input v) = IsTrue (has_name ns k)
IsListed ns k (rule e) = ⊤

abbrev pub AreListed : List (List ℕ) → List (List ℕ × Item) → Type 0
AreListed ns es = AllByRecursion (λ e. IsListed ns e.0 e.1) es

-- no name of these lacks there
abbrev pub HasAll : List (List ℕ) → List (List ℕ) → Type 0
HasAll ms ns = (k : List ℕ) → IsTrue (has_name ns k) → IsTrue (has_name ms k)

abbrev pub is_input : Option Item → Bool
is_input None = false
is_input (Some (input v)) = true
is_input (Some (rule e)) = false

listed_alike : (ns : List (List ℕ)) (k : List ℕ) (x : Item) → IsProp (IsListed ns k x)
listed_alike ns k (input v) = truth_alike (has_name ns k)
listed_alike ns k (rule e) = Unit-prop

pub AreListed-prop : (ns : List (List ℕ)) (es : List (List ℕ × Item)) → IsProp (AreListed ns es)
AreListed-prop ns es = AllByRecursion-prop (λ e. IsListed ns e.0 e.1) (λ e. listed_alike ns e.0 e.1) es

-- What names have as values, and lists of names.
use Rattle.std.specs.Prelude.{ℕ, List, [], ◌∷◌, ◌≡◌, ◌⊎◌, Option, Some}
use Rattle.std.specs.List.Sorted.{IsStrictlySortedBy}
use Rattle.carte_value.specs.declared.value.Value.{Value}
use Rattle.carte_name.specs.Names.{name_cmp}

-- what a name's value is, where it has one
abbrev pub Truth : Type 0
Truth = List ℕ → Option Value

-- u has each value that t has
abbrev pub Extends : Truth → Truth → Type 0
Extends t u = (k : List ℕ) (v : Value) → t k ≡ Some v → u k ≡ Some v

-- the name stands in the list
abbrev pub Among : List (List ℕ) → List ℕ → Type 0
Among [] k = ⊥
Among (j ∷ js) k = (k ≡ j) ⊎ Among js k

-- the one list, in name order, of the names that have the property
pub record IsListOf (P : List ℕ → Type 0) (ks : List (List ℕ)) : Type 0 where
  pub rising : IsStrictlySortedBy name_cmp ks
  pub only : (k : List ℕ) → Among ks k → P k
  pub each : (k : List ℕ) → P k → Among ks k

-- no name stands in the list twice
abbrev pub NoneTwice : List (List ℕ) → Type 0
NoneTwice [] = Unit {0}
NoneTwice (k ∷ ks) = ¬ (Among ks k) × NoneTwice ks

-- the name has a value
abbrev pub HasValue : Truth → List ℕ → Type 0
HasValue t k = (v : Value) × (t k ≡ Some v)

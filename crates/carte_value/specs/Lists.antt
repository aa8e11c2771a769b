-- Members of lists, and functions of names with one answer more.
use Rattle.std.specs.Prelude.{ℕ, List, [], ◌∷◌, ◌++◌, ◌≡◌, ◌⊎◌, Option, Some, cond}
use Rattle.carte_name.specs.Names.{name_eq}

-- it is one of the list
abbrev pub Has : {A : Type 0} → List A → A → Type 0
Has [] x = ⊥
Has (y ∷ ys) x = (x ≡ y) ⊎ Has ys x

-- the one list begins with the other
abbrev pub Begins : {A : Type 0} → List A → List A → Type 0
Begins {A = A} xs ys = (zs : List A) × (ys ≡ xs ++ zs)

-- the list ends with this name
abbrev pub IsLast : List (List ℕ) → List ℕ → Type 0
IsLast ks k = (before : List (List ℕ)) × (ks ≡ before ++ k ∷ [])

-- the function with this answer at this name
abbrev pub put_at : {A : Type 0} → (List ℕ → Option A) → List ℕ → A → List ℕ → Option A
put_at f k x q = cond (name_eq q k) (Some x) (f q)

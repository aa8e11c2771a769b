-- Paths through a graph, and which of them is the first.
use Rattle.std.specs.Prelude.{ℕ, ◌≡◌, List, [], ◌∷◌, Option, Some, None}
use Rattle.std.specs.declared.cmp.Ordering.TheVariants.{Less}
use Rattle.carte_value.specs.Truths.{Among}
use Rattle.carte_book.specs.Dynamic.{path_cmp}

-- each next name is one of those behind the one before, and the last is a goal
abbrev pub LeadsToGoal : (List ℕ → List (List ℕ)) → (List ℕ → Type 0) → List (List ℕ) → Type 0
LeadsToGoal nexts IsGoal [] = ⊥
LeadsToGoal nexts IsGoal (k ∷ []) = IsGoal k
LeadsToGoal nexts IsGoal (k ∷ j ∷ ks) = Among (nexts k) j × LeadsToGoal nexts IsGoal (j ∷ ks)

-- such a path from one of these names
abbrev pub IsPath : (List ℕ → List (List ℕ)) → (List ℕ → Type 0) → List (List ℕ) → List (List ℕ) → Type 0
IsPath nexts IsGoal starts [] = ⊥
IsPath nexts IsGoal starts (k ∷ ks) = Among starts k × LeadsToGoal nexts IsGoal (k ∷ ks)

abbrev pub NoPath : (List ℕ → List (List ℕ)) → (List ℕ → Type 0) → List (List ℕ) → Type 0
NoPath nexts IsGoal starts = (path : List (List ℕ)) → ¬ (IsPath nexts IsGoal starts path)

-- no other one is shorter, and none as long comes before it in byte order, name by name
pub record IsFirstPath (nexts : List ℕ → List (List ℕ)) (IsGoal : List ℕ → Type 0) (starts path : List (List ℕ)) : Type 0 where
  pub is_path : IsPath nexts IsGoal starts path
  pub first : (other : List (List ℕ)) → IsPath nexts IsGoal starts other → ¬ (path_cmp other path ≡ Less)

abbrev pub IsAnswer : (List ℕ → List (List ℕ)) → (List ℕ → Type 0) → List (List ℕ) → Option (List (List ℕ)) → Type 0
IsAnswer nexts IsGoal starts (Some path) = IsFirstPath nexts IsGoal starts path
IsAnswer nexts IsGoal starts None = NoPath nexts IsGoal starts

-- the names behind this one, or none given where it is a goal
abbrev pub Looks : (List ℕ → List (List ℕ)) → (List ℕ → Type 0) → List ℕ → Option (List (List ℕ)) → Type 0
Looks nexts IsGoal k (Some ks) = ¬ (IsGoal k) × (ks ≡ nexts k)
Looks nexts IsGoal k None = IsGoal k

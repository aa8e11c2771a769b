-- Why a build is refused: a path of names from the first target without a clean value.
use Rattle.std.specs.Prelude.{ℕ, ◌≡◌, ◌⊎◌, List, [], ◌∷◌, Some, None, Err}
use Rattle.carte_value.specs.declared.value.Value.{Value}
use Rattle.carte_value.specs.Truths.{Among}
use Rattle.carte_tree.specs.Tree.{Tree}
use Rattle.carte_tree.specs.Meaning.{eval}
use Rattle.carte_book.specs.Book.{rule, Book, content, clean}
use Rattle.carte_book.specs.declared.reason.Reason.{Reason}
use Rattle.carte_book.specs.declared.reason.Reason.TheVariants.{Cycle, Missing, Dynamic}

abbrev pub IsClean : Book → List ℕ → Type 0
IsClean b k = (v : Value) × (clean b k ≡ Some v)

abbrev pub AllClean : Book → List (List ℕ) → Type 0
AllClean b [] = Unit {0}
AllClean b (k ∷ ks) = IsClean b k × AllClean b ks

-- k is a rule, and j is the one of its needs that has no clean value
abbrev pub StuckAt : Book → List ℕ → List ℕ → Type 0
StuckAt b k j = (e : Tree) × (content b k ≡ Some (rule e)) × (eval b.kind (clean b) e ≡ Err j)

-- the path begins with the first target that has no clean value
abbrev pub Begins : Book → List (List ℕ) → List (List ℕ) → Type 0
Begins b [] path = ⊥
Begins b (k ∷ ks) [] = ⊥
Begins b (k ∷ ks) (j ∷ js) = ((k ≡ j) × (clean b k ≡ None)) ⊎ (IsClean b k × Begins b ks (j ∷ js))

-- each next name is the stuck need of the one before, and the last is the first that was seen before
abbrev pub GoesRound : Book → List (List ℕ) → List (List ℕ) → Type 0
GoesRound b seen [] = ⊥
GoesRound b seen (k ∷ []) = Among seen k
GoesRound b seen (k ∷ j ∷ ks) = ¬ (Among seen k) × StuckAt b k j × GoesRound b (k ∷ seen) (j ∷ ks)

-- the same, but the last has neither a rule nor a value
abbrev pub GoesAstray : Book → List (List ℕ) → List (List ℕ) → Type 0
GoesAstray b seen [] = ⊥
GoesAstray b seen (k ∷ []) = content b k ≡ None
GoesAstray b seen (k ∷ j ∷ ks) = ¬ (Among seen k) × StuckAt b k j × GoesAstray b (k ∷ seen) (j ∷ ks)

-- why a build has no values, whatever the order of its rules
abbrev pub IsReason : Book → List (List ℕ) → Reason → Type 0
IsReason b targets (Cycle path) = Begins b targets path × GoesRound b [] path
IsReason b targets (Missing path) = Begins b targets path × GoesAstray b [] path
IsReason b targets (Dynamic path) = ⊥

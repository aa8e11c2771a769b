-- What stands between the turns of a build: the path, of which each rule waits for the one before it, and what was put aside.
use Rattle.std.specs.Prelude.{ℕ, ◌≡◌, ◌+◌, ◌*◌, ◌⊎◌, true, false, List, [], ◌∷◌, length, Some, None, is_none, if◌then◌else◌}
use Rattle.std.specs.FinMap.{entries}
use Rattle.carte_value.specs.Truths.{Among, NoneTwice}
use Rattle.carte_book.specs.Book.{Item, Book, content}
use Rattle.carte_book.specs.Edits.{IsInput}
use Rattle.carte_book.specs.Needs.{IsRule}
use Rattle.carte_bench.specs.declared.slot.Slot.{Slot}
use Rattle.carte_bench.specs.declared.slot.Slot.TheVariants.{Stopped}
use Rattle.carte_bench.specs.Spots.{Spots, AreNamed, is_done, is_ready}
use Rattle.carte_bench.specs.Ended.{IsOpen}

-- the first waits for this name, and each next one for the one before it
abbrev pub Behind : {J : Type 0} → Spots J → List ℕ → List (List ℕ) → Type 0
Behind s k [] = Unit {0}
Behind {J = J} s k (j ∷ ks) = ((p : J) × (s j ≡ Some (Stopped p k))) × Behind s j ks

-- the first is ready, and each next one waits for the one before it
abbrev pub IsChain : {J : Type 0} → Spots J → List (List ℕ) → Type 0
IsChain s [] = Unit {0}
IsChain s (k ∷ ks) = (is_ready s (s k) ≡ true) × Behind s k ks

-- no turn of the path will make it: it has nothing, or it is open and not on the path
abbrev pub IsLeft : {J : Type 0} → Book → Spots J → List (List ℕ) → List ℕ → Type 0
IsLeft b s path n = (content b n ≡ None) ⊎ (IsOpen s n × ¬ (Among path n))

-- it waits for such a name
abbrev pub IsAside : {J : Type 0} → Book → Spots J → List (List ℕ) → List ℕ → Type 0
IsAside {J = J} b s path k = (p : J) × (n : List ℕ) × (s k ≡ Some (Stopped p n)) × IsLeft b s path n

-- rules alone were demanded, each open one is on the path or aside
pub record Stands {J : Type 0} (name : J → List ℕ) (b : Book) (s : Spots J) (path : List (List ℕ)) : Type 0 where
  pub rules : (k : List ℕ) (x : Slot J) → s k ≡ Some x → IsRule b k
  pub named : AreNamed name s
  pub once : NoneTwice path
  pub open_there : (k : List ℕ) → IsOpen s k → Among path k ⊎ IsAside b s path k

-- the first of the path is ready
pub record IsStanding {J : Type 0} (name : J → List ℕ) (b : Book) (s : Spots J) (path : List (List ℕ)) : Type 0 where
  pub stands : Stands name b s path
  pub chain : IsChain s path

-- the first of the path waits for this name, which isn't done and no input
pub record IsHalted {J : Type 0} (name : J → List ℕ) (b : Book) (s : Spots J) (path : List (List ℕ)) (n : List ℕ) : Type 0 where
  pub stands : Stands name b s path
  pub behind : Behind s n path
  pub waits : (q : List ℕ) → Among path q → (is_done (s n) ≡ false) × ¬ (IsInput b n)

-- it was demanded
abbrev pub IsDemanded : {J : Type 0} → Spots J → List ℕ → Type 0
IsDemanded {J = J} s k = (x : Slot J) × (s k ≡ Some x)

-- what was demanded stays
abbrev pub StaysKnown : {J : Type 0} → Spots J → Spots J → Type 0
StaysKnown {J = J} old new = (q : List ℕ) (x : Slot J) → old q ≡ Some x → IsDemanded new q

-- how many of these names weren't demanded
abbrev pub unknown_in : {J : Type 0} → Spots J → List (List ℕ × Item) → ℕ
unknown_in s [] = 0
unknown_in s ((k, x) ∷ es) = (if is_none (s k) then 1 else 0) + unknown_in s es

-- no build has more turns left for this path
abbrev pub turns_left : {J : Type 0} → Book → Spots J → List (List ℕ) → ℕ
turns_left b s path = 2 * unknown_in s (entries b.items) + length path

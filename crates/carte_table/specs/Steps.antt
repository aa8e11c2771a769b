-- How a list takes in a later one: first it gets the items of keys that it lacks, which can fail, and then items are replaced.
use Rattle.std.specs.Prelude.{ℕ, Bool, true, List, [], ◌∷◌, ◌++◌, ◌≡◌, ◌⊎◌, Option, Some, None, is_some, find}
use Rattle.std.specs.Option.{option_or}
use Rattle.carte_table.specs.Lookups.{find_last}

-- an item, or another one that is there too
abbrev pub replaced_by : {A : Type 0} → Option A → Option A → Option A
replaced_by None new = None
replaced_by (Some x) new = option_or new (Some x)

-- each key has what it had, or where the later list has it too, the last item there
abbrev pub Replaces : {A : Type 0} → (List ℕ → A → Bool) → List A → List A → List A → Type 0
Replaces is_of later old new = (k : List ℕ) → find (is_of k) new ≡ replaced_by (find (is_of k) old) (find_last (is_of k) later)

-- an item of a later list was put behind the others where its key had none, and else behind those that are left
abbrev pub Brings : {A : Type 0} → (List ℕ → A → Bool) → (A → List ℕ) → A → List A → List A → List A → List A → Type 0
Brings is_of key x old left new left' = ((find (is_of (key x)) old ≡ None) × (new ≡ old ++ x ∷ []) × (left' ≡ left)) ⊎ ((is_some (find (is_of (key x)) old) ≡ true) × (new ≡ old) × (left' ≡ left ++ x ∷ []))

-- the list has nothing and can become the later one as it is, in which no key comes twice
pub record CanBecome {A : Type 0} (is_of : List ℕ → A → Bool) (later old : List A) : Type 0 where
  pub empty : old ≡ []
  pub once : (k : List ℕ) → find (is_of k) later ≡ find_last (is_of k) later

-- the list can take in what is left of a later one, whose keys it has; then each key has the last item there, or else what it had
pub record IsReady {A : Type 0} (is_of : List ℕ → A → Bool) (later old left new : List A) : Type 0 where
  pub there : (k : List ℕ) → find (is_of k) new ≡ None → find_last (is_of k) left ≡ None
  pub brings : (k : List ℕ) → replaced_by (find (is_of k) new) (find_last (is_of k) left) ≡ option_or (find_last (is_of k) later) (find (is_of k) old)

-- Tables of the places at which a list has a key.
use Rattle.std.specs.Prelude.{ℕ, suc, Bool, true, false, List, [], ◌∷◌, ◌++◌, ◌≡◌, Option, Some, None, option_map, is_some, map, if◌then◌else◌}
use Rattle.std.specs.Option.{option_or}
use Rattle.carte_table.specs.Changes.{front}

-- the first place at which it passes
abbrev pub first_place : {A : Type 0} → (A → Bool) → List A → Option ℕ
first_place p [] = None
first_place p (x ∷ xs) = if p x then Some 0 else option_map suc (first_place p xs)

-- all of these places, ascending
abbrev pub places : {A : Type 0} → (A → Bool) → List A → List ℕ
places p [] = []
places p (x ∷ xs) = if p x then 0 ∷ map suc (places p xs) else map suc (places p xs)

-- the table has the first place of each key
abbrev pub IsFirstPlaces : {K A : Type 0} → (K → A → Bool) → List A → (K → Option ℕ) → Type 0
IsFirstPlaces {K = K} is_of xs table = (k : K) → table k ≡ first_place (is_of k) xs

-- the table has all places of each key
abbrev pub ArePlaces : {K A : Type 0} → (K → A → Bool) → List A → (K → List ℕ) → Type 0
ArePlaces {K = K} is_of xs table = (k : K) → table k ≡ places (is_of k) xs

-- one key more has a place, where it had none
abbrev pub AddsPlace : {K : Type 0} → (K → K → Bool) → (K → Option ℕ) → (K → Option ℕ) → K → ℕ → Type 0
AddsPlace {K = K} eq old new k n = (q : K) → new q ≡ option_or (old q) (if eq k q then Some n else None)

-- a key that had no place has this one, or it had one and all stays
pub record EntersPlace {K : Type 0} (eq : K → K → Bool) (old new : K → Option ℕ) (k : K) (n : ℕ) (is_new : Bool) : Type 0 where
  pub put : is_new ≡ true → (old k ≡ None) × AddsPlace eq old new k n
  pub there : is_new ≡ false → (is_some (old k) ≡ true) × ((q : K) → new q ≡ old q)

-- a key has no place more, where it had this one
pub record ForgetsPlace {K : Type 0} (eq : K → K → Bool) (old new : K → Option ℕ) (k : K) (n : ℕ) : Type 0 where
  pub gone : old k ≡ Some n → (q : K) → new q ≡ (if eq k q then None else old q)
  pub stays : ¬ (old k ≡ Some n) → (q : K) → new q ≡ old q

-- one key has one place more
abbrev pub AddsToPlaces : {K : Type 0} → (K → K → Bool) → (K → List ℕ) → (K → List ℕ) → K → ℕ → Type 0
AddsToPlaces {K = K} eq old new k n = (q : K) → new q ≡ (if eq k q then old q ++ n ∷ [] else old q)

-- one key has its last place no more
abbrev pub DropsPlace : {K : Type 0} → (K → K → Bool) → (K → List ℕ) → (K → List ℕ) → K → Type 0
DropsPlace {K = K} eq old new k = (q : K) → new q ≡ (if eq k q then front (old q) else old q)

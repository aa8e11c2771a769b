-- Which keys can go on, and which wait for which.
use Rattle.std.specs.Prelude.{ℕ, ◌≡◌, ◌⊎◌, Bool, true, false, List, [], ◌∷◌, ◌++◌, Option, Some, None, if◌then◌else◌}
use Rattle.std.specs.BTreeSet.{BTreeSet, contains, IsOrdered}
use Rattle.std.specs.HashMap.{get}
use Rattle.carte_name.specs.Names.{name_eq, name_cmp}
use Rattle.carte_value.specs.Truths.{Among}
use Rattle.carte_wave.specs.declared.front.Front.{Front}

-- whether a key can go on, and which keys wait for a name
pub record Line : Type 0 where
  pub ready : List ℕ → Bool
  pub waits : List ℕ → List (List ℕ)

abbrev pub keys_in : Option (List (List ℕ)) → List (List ℕ)
keys_in None = []
keys_in (Some ks) = ks

abbrev pub line_of : Front → Line
line_of f = record { ready = λ q. contains name_cmp f.ready q; waits = λ q. keys_in (get name_eq f.waits q) }

-- nothing can go on or waits
pub record IsNoLine (f : Line) : Type 0 where
  pub ready : (q : List ℕ) → f.ready q ≡ false
  pub waits : (q : List ℕ) → f.waits q ≡ []

-- all keys that can go on were taken, in name order
pub record IsTaken (f g : Line) (keys : BTreeSet (List ℕ)) : Type 0 where
  pub keys_are : (q : List ℕ) → contains name_cmp keys q ≡ f.ready q
  pub rising : IsOrdered name_cmp keys
  pub ready : (q : List ℕ) → g.ready q ≡ false
  pub waits : (q : List ℕ) → g.waits q ≡ f.waits q

-- one more can go on
pub record AddsReady (k : List ℕ) (f g : Line) : Type 0 where
  pub only : (q : List ℕ) → g.ready q ≡ true → (q ≡ k) ⊎ (f.ready q ≡ true)
  pub stays : (q : List ℕ) → f.ready q ≡ true → g.ready q ≡ true
  pub there : g.ready k ≡ true
  pub waits : (q : List ℕ) → g.waits q ≡ f.waits q

-- so can the first of these
abbrev pub AddsFirst : List (List ℕ) → Line → Line → Type 0
AddsFirst [] f g = g ≡ f
AddsFirst (k ∷ ks) f g = AddsReady k f g

-- each of these was put into the set
pub record AddsEach (ks : List (List ℕ)) (old new : BTreeSet (List ℕ)) : Type 0 where
  pub only : (q : List ℕ) → contains name_cmp new q ≡ true → Among ks q ⊎ (contains name_cmp old q ≡ true)
  pub stays : (q : List ℕ) → contains name_cmp old q ≡ true → contains name_cmp new q ≡ true
  pub there : (q : List ℕ) → Among ks q → contains name_cmp new q ≡ true

-- a key more waits for the name
pub record Waits (n k : List ℕ) (f g : Line) : Type 0 where
  pub waits : (q : List ℕ) → g.waits q ≡ (if name_eq n q then f.waits q ++ k ∷ [] else f.waits q)
  pub ready : (q : List ℕ) → g.ready q ≡ f.ready q

-- all that wait for the name can go on
pub record Wakes (n : List ℕ) (f g : Line) : Type 0 where
  pub only : (q : List ℕ) → g.ready q ≡ true → Among (f.waits n) q ⊎ (f.ready q ≡ true)
  pub stays : (q : List ℕ) → f.ready q ≡ true → g.ready q ≡ true
  pub there : (q : List ℕ) → Among (f.waits n) q → g.ready q ≡ true
  pub waits : (q : List ℕ) → g.waits q ≡ f.waits q

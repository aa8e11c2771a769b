-- Which names targets lead to by entries, and which of them begin a build.
use Rattle.std.specs.Prelude.{ℕ, ◌≡◌, ◌⊎◌, ◌↔◌, ◌<◌, Bool, true, false, List, [], ◌∷◌, ◌++◌, Option, Some, None, length, get_or}
use Rattle.carte_value.specs.Truths.{Among, NoneTwice}
use Rattle.carte_book.specs.Book.{Book}
use Rattle.carte_book.specs.Needs.{IsRule}
use Rattle.carte_record.specs.declared.entry.Entry.{Entry}
use Rattle.carte_record.specs.Kept.{SomeKept}
use Rattle.carte_sound.specs.Treated.{IsLedTo}

abbrev pub needs_at : Option Entry → List (List ℕ)
needs_at None = []
needs_at (Some e) = e.needs

-- the needs that the key's entry tells of
abbrev pub needs_in : SomeKept → List ℕ → List (List ℕ)
needs_in K k = needs_at (K.entries k)

-- the entry of one of these keys tells of it
abbrev pub IsNeeded : SomeKept → List (List ℕ) → List ℕ → Type 0
IsNeeded K keys q = (k : List ℕ) × Among keys k × Among (needs_in K k) q

-- exactly those
pub record AreNeeded (K : SomeKept) (keys names : List (List ℕ)) : Type 0 where
  pub only : (q : List ℕ) → Among names q → IsNeeded K keys q
  pub each : (q : List ℕ) → IsNeeded K keys q → Among names q

-- exactly the names that targets lead to
pub record AreLed (K : SomeKept) (targets names : List (List ℕ)) : Type 0 where
  pub only : (q : List ℕ) → Among names q → IsLedTo K targets q
  pub each : (q : List ℕ) → IsLedTo K targets q → Among names q

-- a rule among these names, or besides them
abbrev pub IsRuleAmong : Book → List (List ℕ) → List ℕ → Type 0
IsRuleAmong b names k = IsRule b k × Among names k

abbrev pub IsOther : Book → List (List ℕ) → List ℕ → Type 0
IsOther b names k = IsRule b k × ¬ (Among names k)

-- beside each of these names, which come once, whether it is among the keys that were taken
pub record AreTaken (names keys : List (List ℕ)) (taken : List Bool) : Type 0 where
  pub once : NoneTwice names
  pub beside : length taken ≡ length names
  pub told : (i : ℕ) → i < length names → (get_or taken i false ≡ true) ↔ Among keys (get_or names i [])

-- the name was put behind the others where it has the property
abbrev pub PushesIf : (List ℕ → Type 0) → List (List ℕ) → List (List ℕ) → List ℕ → Type 0
PushesIf P old new k = (P k × (new ≡ old ++ k ∷ [])) ⊎ ((¬ (P k)) × (new ≡ old))

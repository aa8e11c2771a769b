-- What it is for bytes to begin with a spelling, and for a spelling to be one.
use Rattle.std.specs.Prelude.{ℕ, List, ◌++◌, ◌≡◌, Result, Ok, Err}
use Rattle.carte_codec.specs.declared.unread.Unread.{Unread}
use Rattle.carte_codec.specs.declared.unread.Unread.TheVariants.{NotThere, NoMemory}

-- the bytes begin with no spelling of anything that fits
abbrev pub IsNotAhead : {A : Type 0} → (A → List ℕ) → (A → Type 0) → List ℕ → Type 0
IsNotAhead {A = A} spelling fits bytes = (v : A) (rest : List ℕ) → fits v → ¬ (bytes ≡ spelling v ++ rest)

abbrev pub FailsToRead : {A : Type 0} → (A → List ℕ) → (A → Type 0) → List ℕ → Unread → Type 0
FailsToRead spelling fits bytes NotThere = IsNotAhead spelling fits bytes
FailsToRead spelling fits bytes NoMemory = Unit {0}

-- what was read fits, and its spelling and what is left are the bytes; it isn't there exactly where the bytes begin with no spelling
abbrev pub IsRead : {A X : Type 0} → (A → List ℕ) → (A → Type 0) → (X → A × List ℕ) → List ℕ → Result X Unread → Type 0
IsRead spelling fits view bytes (Ok x) = fits (view x).0 × (bytes ≡ spelling (view x).0 ++ (view x).1)
IsRead spelling fits view bytes (Err e) = FailsToRead spelling fits bytes e

-- bytes begin with one spelling at most, and that is of one thing
pub record OneSpelling {A : Type 0} (spelling : A → List ℕ) (fits : A → Type 0) : Type 0 where
  pub one : (v w : A) (r s : List ℕ) → fits v → fits w → spelling v ++ r ≡ spelling w ++ s → (v ≡ w) × (r ≡ s)

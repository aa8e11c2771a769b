-- Contents that have cells in front of a place alone.
use Rattle.std.specs.Prelude.{ℕ, ◌≡◌, ◌<◌, ◌⊎◌, true, List, is_some}
use Rattle.std.specs.FinMap.{get}
use Rattle.carte_name.specs.Places.{row_of, column_of}
use Rattle.carte_sheet.specs.Reading.{Content}

-- row by row, and in a row from left to right
abbrev pub IsEarlier : List ℕ → ℕ → ℕ → Type 0
IsEarlier k r c = (row_of k < r) ⊎ ((row_of k ≡ r) × (column_of k < c))

pub record IsBefore (m : Content) (r c : ℕ) : Type 0 where
  pub each : (k : List ℕ) → is_some (get m k) ≡ true → IsEarlier k r c

-- in the rows above this one alone
abbrev pub IsAbove : Content → ℕ → Type 0
IsAbove m r = IsBefore m r 1

-- Columns and rows of cells.
use Rattle.std.specs.Prelude.{ℕ, List, [], ◌∷◌, ◌++◌, ◌≡◌, ◌≤◌, ◌+◌, ◌-◌, ◌*◌, ◌/◌, ◌%◌, drop, slice_index, nat_le, IsTrue, Option, Some, None, if◌then◌else◌}
use Rattle.std.specs.Fmt.{decimal}
use Rattle.std.specs.Str.Parse.{digits_value}
use Rattle.carte_name.specs.Names.{is_upper, is_cell_name}

-- columns are A to Z, and then AA to ZZ, counted from 1
unfoldable pub column_name : ℕ → List ℕ
column_name c = if nat_le c 26 then (64 + c) ∷ [] else (64 + (c - 1) / 26) ∷ (65 + (c - 1) % 26) ∷ []

-- the name of the cell in this column and this row
unfoldable pub cell_at : ℕ → ℕ → List ℕ
cell_at c r = column_name c ++ decimal r

-- the column and the row of a cell
unfoldable pub column_of : List ℕ → ℕ
column_of k = if is_upper (slice_index k 1) then (slice_index k 0 - 64) * 26 + (slice_index k 1 - 64) else slice_index k 0 - 64

unfoldable pub row_of : List ℕ → ℕ
row_of k = digits_value 10 (if is_upper (slice_index k 1) then drop 2 k else drop 1 k)

-- they lie in the sheet
pub record IsPlace (c r : ℕ) : Type 0 where
  pub first_column : 1 ≤ c
  pub last_column : c ≤ 702
  pub first_row : 1 ≤ r
  pub last_row : r ≤ 9999

abbrev pub IsPlaceOf : List ℕ → Option (ℕ × ℕ) → Type 0
IsPlaceOf k (Some p) = IsTrue (is_cell_name k) × (p.0 ≡ column_of k) × (p.1 ≡ row_of k)
IsPlaceOf k None = IsTrue (is_cell_name k) → ⊥

-- names of cells and places of the sheet are the same
pub record CellsByPlace : Type 0 where
  pub cell : (c r : ℕ) → IsPlace c r → IsTrue (is_cell_name (cell_at c r))
  pub column : (c r : ℕ) → IsPlace c r → column_of (cell_at c r) ≡ c
  pub row : (c r : ℕ) → IsPlace c r → row_of (cell_at c r) ≡ r
  pub place : (k : List ℕ) → IsTrue (is_cell_name k) → IsPlace (column_of k) (row_of k)
  pub again : (k : List ℕ) → IsTrue (is_cell_name k) → cell_at (column_of k) (row_of k) ≡ k

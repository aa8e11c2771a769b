-- Rectangles of cells.
use Rattle.std.specs.Prelude.{ℕ, List, ◌≡◌, ◌≤◌, ◌+◌, ◌-◌, ◌*◌, min, max, map, IsTrue, ◌↔◌, Option, Some, None}
use Rattle.std.specs.List.{flat_map, range_with_len}
use Rattle.carte_name.specs.Names.{is_cell_name}
use Rattle.carte_name.specs.Places.{cell_at, column_of, row_of, IsPlace}
use Rattle.carte_value.specs.declared.area.Area.{Area}
use Rattle.carte_value.specs.Truths.{Among, NoneTwice}

-- the corners lie in the sheet, and as the fields say
pub record IsArea (a : Area) : Type 0 where
  pub first : IsPlace a.left a.top
  pub last : IsPlace a.right a.bottom
  pub across : a.left ≤ a.right
  pub down : a.top ≤ a.bottom

-- the area between two opposite corners, in any order
unfoldable pub area_of : List ℕ → List ℕ → Area
area_of a b = record { left = min (column_of a) (column_of b); top = min (row_of a) (row_of b); right = max (column_of a) (column_of b); bottom = max (row_of a) (row_of b) }

-- where both are cells
abbrev pub IsAreaMade : List ℕ → List ℕ → Option Area → Type 0
IsAreaMade a b (Some area) = IsTrue (is_cell_name a) × IsTrue (is_cell_name b) × (area ≡ area_of a b)
IsAreaMade a b None = IsTrue (is_cell_name a) → IsTrue (is_cell_name b) → ⊥

-- the cells of one row, from left to right
abbrev pub row_cells : Area → ℕ → List (List ℕ)
row_cells a r = map (λ c. cell_at c r) (range_with_len a.left (a.right + 1 - a.left))

-- row by row
abbrev pub cells_of : Area → List (List ℕ)
cells_of a = flat_map (row_cells a) (range_with_len a.top (a.bottom + 1 - a.top))

abbrev pub size_of : Area → ℕ
size_of a = (a.right + 1 - a.left) * (a.bottom + 1 - a.top)

-- no cell stands in an area twice
abbrev pub EachCellOnce : Type 0
EachCellOnce = (a : Area) → IsArea a → NoneTwice (cells_of a)

-- the cells of an area are those whose column and row lie between its sides
pub record IsWithin (a : Area) (k : List ℕ) : Type 0 where
  pub cell : IsTrue (is_cell_name k)
  pub left : a.left ≤ column_of k
  pub right : column_of k ≤ a.right
  pub top : a.top ≤ row_of k
  pub bottom : row_of k ≤ a.bottom

abbrev pub CellsWithin : Type 0
CellsWithin = (a : Area) → IsArea a → (k : List ℕ) → Among (cells_of a) k ↔ IsWithin a k

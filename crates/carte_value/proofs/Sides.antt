-- Which cells stand in an area, and that each stands there once.
use Rattle.std.proofs.Common.{◌≡◌, ℕ, zero, suc, ◌+◌, ◌-◌, ◌<◌, ◌≤◌, List, map, ap, sym, ◌∙◌, subst, inl, inr, arith, IsTrue}
use Rattle.std.specs.List.{flat_map, range_with_len}
use Rattle.std.proofs.lemmas.Bool.{cases_eq}
use Rattle.carte_name.specs.Names.{is_cell_name}
use Rattle.carte_name.specs.Places.{cell_at, column_of, row_of, IsPlace}
use Rattle.carte_name.proofs.Places.{at_is_cell, column_at, row_at, cell_again}
use Rattle.carte_value.specs.declared.area.Area.{Area}
use Rattle.carte_value.specs.Truths.{Among, NoneTwice}
use Rattle.carte_value.specs.Areas.{IsArea, row_cells, cells_of, EachCellOnce, CellsWithin}
use Rattle.carte_value.proofs.Members.{among_append, among_left, among_right, apart_append}

-- one row

row_from : ℕ → ℕ → ℕ → List (List ℕ)
row_from r a n = map (λ c. cell_at c r) (range_with_len a n)

in_row : (r a n : ℕ) (k : List ℕ) → Among (row_from r a n) k → (c : ℕ) × (a ≤ c) × (c < a + n) × (k ≡ cell_at c r)
unfolding row_from
in_row r a zero k h = absurd h
in_row r a (suc n) k h = elim h [
  | inl same ↦ (a, omega arith, omega arith, same)
  | inr later ↦ (let found : (c : ℕ) × (a + 1 ≤ c) × (c < a + 1 + n) × (k ≡ cell_at c r) = in_row r (a + 1) n k later in
      (found.0, omega (arith, found.1), omega (arith, found.2), found.3))
]

of_row : (r a n c : ℕ) → a ≤ c → c < a + n → Among (row_from r a n) (cell_at c r)
unfolding row_from
of_row r a zero c low high = absurd (omega arith)
of_row r a (suc n) c low high = elim (cases_eq a c) [
  | inl same ↦ inl (ap (λ d. cell_at d r) (sym same))
  | inr other ↦ inr (of_row r (a + 1) n c (omega arith) (omega arith))
]

row_once : (r a n : ℕ) → ((c : ℕ) → a ≤ c → c < a + n → IsPlace c r) → NoneTwice (row_from r a n)
unfolding row_from
row_once r a zero places = tt
row_once r a (suc n) places = (
  (λ h. let found = in_row r (a + 1) n (cell_at a r) h in
      let same : a ≡ found.0 = sym (column_at a r (places a (omega arith) (omega arith))) ∙ ap column_of found.3 ∙ column_at found.0 r (places found.0 (omega (arith, found.1)) (omega (arith, found.2))) in
      absurd (omega (arith, found.1, same))),
  row_once r (a + 1) n (λ c low high. places c (omega arith) (omega arith)),
)

-- all rows

rows_from : Area → ℕ → ℕ → List (List ℕ)
rows_from a t n = flat_map (row_cells a) (range_with_len t n)

pub record InRows (a : Area) (t n : ℕ) (k : List ℕ) : Type 0 where
  pub row : ℕ
  pub column : ℕ
  pub below_top : t ≤ row
  pub above_bottom : row < t + n
  pub from_left : a.left ≤ column
  pub to_right : column < a.left + (a.right + 1 - a.left)
  pub is : k ≡ cell_at column row

in_rows : (a : Area) (t n : ℕ) (k : List ℕ) → Among (rows_from a t n) k → InRows a t n k
unfolding rows_from row_from
in_rows a t zero k h = absurd h
in_rows a t (suc n) k h = elim (among_append (row_from t a.left (a.right + 1 - a.left)) (rows_from a (t + 1) n) k h) [
  | inl here ↦ (let found = in_row t a.left (a.right + 1 - a.left) k here in record {
    row = t;
    column = found.0;
    below_top = omega arith;
    above_bottom = omega arith;
    from_left = found.1;
    to_right = found.2;
    is = found.3;
  })
  | inr later ↦ (let found = in_rows a (t + 1) n k later in record {
    row = found.row;
    column = found.column;
    below_top = omega (arith, found.below_top);
    above_bottom = omega (arith, found.above_bottom);
    from_left = found.from_left;
    to_right = found.to_right;
    is = found.is;
  })
]

of_rows : (a : Area) (t n c r : ℕ) → t ≤ r → r < t + n → a.left ≤ c → c < a.left + (a.right + 1 - a.left) → Among (rows_from a t n) (cell_at c r)
unfolding rows_from row_from
of_rows a t zero c r low high left right = absurd (omega arith)
of_rows a t (suc n) c r low high left right = elim (cases_eq t r) [
  | inl same ↦ among_left (row_from t a.left (a.right + 1 - a.left)) (rows_from a (t + 1) n) (cell_at c r)
      (subst (λ s. Among (row_from t a.left (a.right + 1 - a.left)) (cell_at c s)) same (of_row t a.left (a.right + 1 - a.left) c left right))
  | inr other ↦ among_right (row_from t a.left (a.right + 1 - a.left)) (rows_from a (t + 1) n) (cell_at c r) (of_rows a (t + 1) n c r (omega arith) (omega arith) left right)
]

rows_once : (a : Area) (t n : ℕ) → ((c r : ℕ) → a.left ≤ c → c < a.left + (a.right + 1 - a.left) → t ≤ r → r < t + n → IsPlace c r) → NoneTwice (rows_from a t n)
unfolding rows_from row_from
rows_once a t zero places = tt
rows_once a t (suc n) places =
    apart_append (row_from t a.left (a.right + 1 - a.left)) (rows_from a (t + 1) n)
    (row_once t a.left (a.right + 1 - a.left) (λ c low high. places c t low high (omega arith) (omega arith)))
    (rows_once a (t + 1) n (λ c r low high top bottom. places c r low high (omega arith) (omega arith)))
    (λ k here later.
    let one = in_row t a.left (a.right + 1 - a.left) k here in
    let two = in_rows a (t + 1) n k later in
    let same : t ≡ two.row =
    sym (row_at one.0 t (places one.0 t one.1 one.2 (omega arith) (omega arith))) ∙ ap row_of (sym one.3 ∙ two.is)
    ∙ row_at two.column two.row (places two.column two.row two.from_left two.to_right (omega (arith, two.below_top)) (omega (arith, two.above_bottom))) in
    absurd (omega (arith, same, two.below_top)))

places_in : (a : Area) → IsArea a → (c r : ℕ) → a.left ≤ c → c < a.left + (a.right + 1 - a.left) → a.top ≤ r → r < a.top + (a.bottom + 1 - a.top) → IsPlace c r
places_in a area c r left right top bottom =
    let first = area.first in
    let last = area.last in
    record {
      first_column = omega (arith, first.first_column);
      last_column = omega (arith, last.last_column, area.across);
      first_row = omega (arith, first.first_row);
      last_row = omega (arith, last.last_row, area.down);
    }

pub each_cell_once : EachCellOnce
unfolding rows_from
each_cell_once a area = rows_once a a.top (a.bottom + 1 - a.top) (λ c r left right top bottom. places_in a area c r left right top bottom)

pub cells_within : CellsWithin
unfolding rows_from
cells_within a area k = (
  (λ among.
      let found = in_rows a a.top (a.bottom + 1 - a.top) k among in
      let place = places_in a area found.column found.row found.from_left found.to_right found.below_top found.above_bottom in
      let column : column_of k ≡ found.column = ap column_of found.is ∙ column_at found.column found.row place in
      let row : row_of k ≡ found.row = ap row_of found.is ∙ row_at found.column found.row place in
      record {
        cell = subst (λ j. IsTrue (is_cell_name j)) (sym found.is) (at_is_cell found.column found.row place);
        left = omega (arith, column, found.from_left);
        right = omega (arith, column, found.to_right, area.across);
        top = omega (arith, row, found.below_top);
        bottom = omega (arith, row, found.above_bottom, area.down);
      }),
  (λ within. subst (Among (cells_of a)) (cell_again k within.cell)
      (of_rows a a.top (a.bottom + 1 - a.top) (column_of k) (row_of k) within.top (omega (arith, within.bottom)) within.left (omega (arith, within.right)))),
)

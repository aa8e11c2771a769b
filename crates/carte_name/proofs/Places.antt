-- Names of cells and their places.
use Rattle.std.proofs.Common.{◌≡◌, ℕ, ◌+◌, ◌-◌, ◌*◌, ◌/◌, ◌%◌, ◌^◌, ◌<◌, ◌≤◌, true, false, ◌&&◌, nat_le, List, [], ◌∷◌, length, slice_index, get_or, refl, ap, sym, ◌∙◌, inl, inr, arith, decimal, rules, eq-zero-or-pos}
use Rattle.std.specs.List.{list_all}
use Rattle.std.specs.Str.Parse.{digits_value}
use Rattle.std.proofs.lemmas.Bool.{cases_Bool, cases_lt, and_from, and_parts, or_parts, le-leb, lt-leb, leb-true}
use Rattle.std.proofs.lemmas.Fmt.{decimal_is_IsNumeral, length-decimal-le, first_decimal, decimal-digits_value, decimal_digit}
use Rattle.std.proofs.lemmas.Str.Parse.{IsNumeralModel, numerals_by_value, digits_value_short}
use Rattle.carte_name.specs.Names.{is_digit, is_upper, is_row, is_cell_name}
use Rattle.carte_name.proofs.Raised.{row_first}
use Rattle.carte_name.specs.Places.{column_name, cell_at, column_of, row_of, IsPlace, CellsByPlace}

own : IsNumeralModel (λ ds. list_all is_digit ds ≡ true) (digits_value 10)
own = numerals_by_value (λ ds. list_all is_digit ds ≡ true) (search rules)

-- rows

row_written : (r : ℕ) → 1 ≤ r → r ≤ 9999 → is_row (decimal r) ≡ true
row_written r some few =
    let written = decimal_is_IsNumeral r (omega arith) in
    let short : length (decimal r) ≤ 4 = length-decimal-le 4 r (omega arith) (omega arith) (omega arith) in
    let first : 48 < get_or (decimal r) 0 0 = first_decimal r (omega arith) (omega arith) in
    and_from _ _ (and_from _ _ (and_from _ _ (le-leb 1 (length (decimal r)) (omega (arith, written.0.0))) (le-leb (length (decimal r)) 4 short)) (own.from (decimal r) written.0.1)) (le-leb 49 (get_or (decimal r) 0 0) (omega arith))

row_read : (r : ℕ) → r ≤ 9999 → digits_value 10 (decimal r) ≡ r
row_read r few = (decimal_is_IsNumeral r (omega arith)).1

-- what a row is made of
record IsRow (x : List ℕ) : Type 0 where
  digits : list_all is_digit x ≡ true
  some : 1 ≤ length x
  few : length x ≤ 4
  first : 49 ≤ slice_index x 0

row_parts : (x : List ℕ) → is_row x ≡ true → IsRow x
row_parts x row =
    let parts = and_parts (((nat_le 1 (length x) && nat_le (length x) 4) && list_all is_digit x)) (nat_le 49 (slice_index x 0)) row in
    let counted = and_parts (nat_le 1 (length x) && nat_le (length x) 4) (list_all is_digit x) parts.0 in
    let long = and_parts (nat_le 1 (length x)) (nat_le (length x) 4) counted.0 in
    record {
      digits = counted.1;
      some = leb-true 1 (length x) long.0;
      few = leb-true (length x) 4 long.1;
      first = leb-true 49 (slice_index x 0) parts.1;
    }

row_small : (x : List ℕ) → IsRow x → digits_value 10 x < 10 ^ 4
row_small x row = digits_value_short own x 4 row.digits row.few

row_again : (x : List ℕ) → IsRow x → decimal (digits_value 10 x) ≡ x
row_again x row =
    let small : digits_value 10 x < 10 ^ 4 = row_small x row in
    decimal-digits_value own x row.digits (omega (arith, row.some)) (λ e. absurd (omega (arith, row.first, e))) (omega arith)

row_some : (x : List ℕ) → IsRow x → 1 ≤ digits_value 10 x
row_some x row = elim (eq-zero-or-pos (digits_value 10 x)) [
  | inr more ↦ omega arith
  | inl none ↦ (let zero_row : x ≡ 48 ∷ [] = sym (row_again x row) ∙ ap decimal none ∙ decimal_digit 0 (omega arith) in
      absurd (omega (arith, row.first, ap (λ y. slice_index y 0) zero_row)))
]

-- a row begins with no letter
row_apart : (x : List ℕ) → is_row x ≡ true → is_upper (slice_index x 0) ≡ false
row_apart x row = (or_parts _ _ (row_first x row)).0

-- a cell's name by its letters
data CellShape : List ℕ → Type 0 where
  one : (a : ℕ) (x : List ℕ) → is_upper a ≡ true → is_row x ≡ true → CellShape (a ∷ x)
  two : (a b : ℕ) (x : List ℕ) → is_upper a ≡ true → is_upper b ≡ true → is_row x ≡ true → CellShape (a ∷ b ∷ x)

shape_of : (k : List ℕ) → is_cell_name k ≡ true → CellShape k
shape_of [] cell = cc
shape_of (a ∷ []) cell = let row = (and_parts (is_upper a) (is_row []) cell).1 in cc
shape_of (a ∷ b ∷ x) cell = elim (cases_Bool (is_upper b)) [
  | inl letter ↦ (let parts : (is_upper a ≡ true) × (is_row x ≡ true) = and_parts _ _ (rw letter at cell) in two a b x parts.0 letter parts.1)
  | inr other ↦ (let parts : (is_upper a ≡ true) × (is_row (b ∷ x) ≡ true) = and_parts _ _ (rw other at cell) in one a (b ∷ x) parts.0 parts.1)
]

upper_bounds : (a : ℕ) → is_upper a ≡ true → (65 ≤ a) × (a ≤ 90)
upper_bounds a upper = let parts = and_parts (nat_le 65 a) (nat_le a 90) upper in (leb-true 65 a parts.0, leb-true a 90 parts.1)

place_of_shape : (k : List ℕ) → CellShape k → IsPlace (column_of k) (row_of k)
unfolding column_of row_of
place_of_shape _ (one a x upper row) = let bounds = upper_bounds a upper in rw (row_apart x row) (record {
  first_column = omega (arith, bounds);
  last_column = omega (arith, bounds);
  first_row = row_some x (row_parts x row);
  last_row = omega (arith, row_small x (row_parts x row));
})
place_of_shape _ (two a b x upper upper' row) = let bounds = upper_bounds a upper in let bounds' = upper_bounds b upper' in rw upper' (record {
  first_column = omega (arith, bounds, bounds');
  last_column = omega (arith, bounds, bounds');
  first_row = row_some x (row_parts x row);
  last_row = omega (arith, row_small x (row_parts x row));
})

-- the place of a cell lies in the sheet
pub place_within : (k : List ℕ) → is_cell_name k ≡ true → IsPlace (column_of k) (row_of k)
place_within k cell = place_of_shape k (shape_of k cell)

again_by_shape : (k : List ℕ) → CellShape k → cell_at (column_of k) (row_of k) ≡ k
unfolding cell_at column_name column_of row_of
again_by_shape _ (one a x upper row) =
    let bounds = upper_bounds a upper in
    let letter : 64 + (a - 64) ≡ a = omega (arith, bounds) in
    rw (row_apart x row, le-leb (a - 64) 26 (omega (arith, bounds)), row_again x (row_parts x row), letter) refl
again_by_shape _ (two a b x upper upper' row) =
    let bounds = upper_bounds a upper in
    let bounds' = upper_bounds b upper' in
    let c = (a - 64) * 26 + (b - 64) in
    let first : 64 + (c - 1) / 26 ≡ a = omega (arith, bounds, bounds') in
    let second : 65 + (c - 1) % 26 ≡ b = omega (arith, bounds, bounds') in
    rw (upper', lt-leb c 26 (omega (arith, bounds, bounds')), row_again x (row_parts x row), first, second) refl

-- the cell at the place of a cell
pub cell_again : (k : List ℕ) → is_cell_name k ≡ true → cell_at (column_of k) (row_of k) ≡ k
cell_again k cell = again_by_shape k (shape_of k cell)

-- the letters of a column: one or two
data ColumnShape (c : ℕ) : Type 0 where
  short : c ≤ 26 → column_name c ≡ (64 + c) ∷ [] → ColumnShape c
  long : (a b : ℕ) → column_name c ≡ a ∷ b ∷ [] → is_upper a ≡ true → is_upper b ≡ true → (a - 64) * 26 + (b - 64) ≡ c → ColumnShape c

column_shape : (c : ℕ) → 1 ≤ c → c ≤ 702 → ColumnShape c
unfolding column_name
column_shape c some few = elim (cases_lt 26 c) [
  | inr low ↦ short low (rw (le-leb c 26 low) refl)
  | inl more ↦ long (64 + (c - 1) / 26) (65 + (c - 1) % 26) (rw (lt-leb c 26 more) refl)
      (and_from _ _ (le-leb 65 (64 + (c - 1) / 26) (omega arith)) (le-leb (64 + (c - 1) / 26) 90 (omega arith)))
      (and_from _ _ (le-leb 65 (65 + (c - 1) % 26) (omega arith)) (le-leb (65 + (c - 1) % 26) 90 (omega arith)))
      (omega arith)
]

cell_by_shape : (c r : ℕ) → 1 ≤ c → is_row (decimal r) ≡ true → ColumnShape c → is_cell_name (cell_at c r) ≡ true
unfolding cell_at
cell_by_shape c r some row (short low name) = rw (name, row_apart (decimal r) row) (and_from _ _ (and_from _ _ (le-leb 65 (64 + c) (omega arith)) (le-leb (64 + c) 90 (omega arith))) row)
cell_by_shape c r some row (long a b name upper upper' is) = rw (name, upper, upper') row

pub at_is_cell : (c r : ℕ) → IsPlace c r → is_cell_name (cell_at c r) ≡ true
at_is_cell c r place = cell_by_shape c r place.first_column (row_written r place.first_row place.last_row) (column_shape c place.first_column place.last_column)

column_by_shape : (c r : ℕ) → is_row (decimal r) ≡ true → ColumnShape c → column_of (cell_at c r) ≡ c
unfolding cell_at column_of
column_by_shape c r row (short low name) = rw (name, row_apart (decimal r) row) (omega arith)
column_by_shape c r row (long a b name upper upper' is) = rw (name, upper') is

pub column_at : (c r : ℕ) → IsPlace c r → column_of (cell_at c r) ≡ c
column_at c r place = column_by_shape c r (row_written r place.first_row place.last_row) (column_shape c place.first_column place.last_column)

row_by_shape : (c r : ℕ) → is_row (decimal r) ≡ true → digits_value 10 (decimal r) ≡ r → ColumnShape c → row_of (cell_at c r) ≡ r
unfolding cell_at row_of
row_by_shape c r row read (short low name) = rw (name, row_apart (decimal r) row) read
row_by_shape c r row read (long a b name upper upper' is) = rw (name, upper') read

pub row_at : (c r : ℕ) → IsPlace c r → row_of (cell_at c r) ≡ r
row_at c r place = row_by_shape c r (row_written r place.first_row place.last_row) (row_read r place.last_row) (column_shape c place.first_column place.last_column)

pub cells_by_place : CellsByPlace
cells_by_place = record { cell = at_is_cell; column = column_at; row = row_at; place = place_within; again = cell_again }

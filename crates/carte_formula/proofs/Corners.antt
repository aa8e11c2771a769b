-- Ranges are again what their corners span.
use Rattle.std.proofs.Common.{ℕ, List, true, ◌≡◌, ◌≤◌, min, max, refl, arith}
use Rattle.carte_name.specs.Names.{is_cell_name}
use Rattle.carte_name.specs.Places.{cell_at, column_of, row_of, IsPlace}
use Rattle.carte_value.specs.Areas.{area_of}
use Rattle.carte_name.proofs.Places.{place_within, at_is_cell, column_at, row_at}
use Rattle.carte_tree.specs.Tree.{first_corner, last_corner}
use Rattle.carte_formula.specs.Tokens.{Area}

least_place : (c r d s : ℕ) → IsPlace c r → IsPlace d s → IsPlace (min c d) (min r s)
least_place c r d s h k =
    let a = h.first_column in let b = h.last_column in let e = k.first_column in let f = k.last_column in
    let i = h.first_row in let j = h.last_row in let l = k.first_row in let m = k.last_row in
    record { first_column = omega arith; last_column = omega arith; first_row = omega arith; last_row = omega arith }

greatest_place : (c r d s : ℕ) → IsPlace c r → IsPlace d s → IsPlace (max c d) (max r s)
greatest_place c r d s h k =
    let a = h.first_column in let b = h.last_column in let e = k.first_column in let f = k.last_column in
    let i = h.first_row in let j = h.last_row in let l = k.first_row in let m = k.last_row in
    record { first_column = omega arith; last_column = omega arith; first_row = omega arith; last_row = omega arith }

abbrev corners : ℕ → ℕ → ℕ → ℕ → Area
corners l t r b = record { left = l; top = t; right = r; bottom = b }

spanned : (c r d s : ℕ) → IsPlace c r → IsPlace d s → c ≤ d → r ≤ s → area_of (cell_at c r) (cell_at d s) ≡ corners c r d s
unfolding area_of
spanned c r d s h k across down = rw (column_at c r h, column_at d s k, row_at c r h, row_at d s k) (sides c r d s across down)
  where
    sides : (c r d s : ℕ) → c ≤ d → r ≤ s → corners (min c d) (min r s) (max c d) (max r s) ≡ corners c r d s
    sides c r d s across down =
        let a : min c d ≡ c = omega arith in let b : min r s ≡ r = omega arith in let e : max c d ≡ d = omega arith in let f : max r s ≡ s = omega arith in
        rw (a, b, e, f) refl

pub corners_again : (a b : List ℕ) → is_cell_name a ≡ true → is_cell_name b ≡ true → area_of (first_corner (area_of a b)) (last_corner (area_of a b)) ≡ area_of a b
unfolding area_of
corners_again a b h k = spans (column_of a) (row_of a) (column_of b) (row_of b) (place_within a h) (place_within b k)
  where
    spans : (c r d s : ℕ) → IsPlace c r → IsPlace d s → area_of (cell_at (min c d) (min r s)) (cell_at (max c d) (max r s)) ≡ corners (min c d) (min r s) (max c d) (max r s)
    spans c r d s h k = spanned (min c d) (min r s) (max c d) (max r s) (least_place c r d s h k) (greatest_place c r d s h k) (omega arith) (omega arith)

pub first_is_cell : (a b : List ℕ) → is_cell_name a ≡ true → is_cell_name b ≡ true → is_cell_name (first_corner (area_of a b)) ≡ true
unfolding area_of
first_is_cell a b h k = at_is_cell _ _ (least_place (column_of a) (row_of a) (column_of b) (row_of b) (place_within a h) (place_within b k))

pub last_is_cell : (a b : List ℕ) → is_cell_name a ≡ true → is_cell_name b ≡ true → is_cell_name (last_corner (area_of a b)) ≡ true
unfolding area_of
last_is_cell a b h k = at_is_cell _ _ (greatest_place (column_of a) (row_of a) (column_of b) (row_of b) (place_within a h) (place_within b k))

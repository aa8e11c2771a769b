-- Areas between two corners, and their cells row by row.
use Rattle.std.proofs.Common.{◌≡◌, ℕ, zero, suc, ◌+◌, ◌-◌, ◌*◌, ◌≤◌, min, max, true, List, [], ◌∷◌, ◌++◌, length, map, refl, ap, ap₂, sym, ◌∙◌, arith, append_assoc, append-nil, map-id, zero-mul, suc-mul, add_comm, mul_comm, length-append}
use Rattle.std.specs.List.{flat_map, range_with_len}
use Rattle.std.proofs.lemmas.Grind.{flat_map-append}
use Rattle.std.proofs.lemmas.List.FromFn.{map-range_with_len_more, length-map-range_with_len}
use Rattle.carte_name.specs.Names.{is_cell_name}
use Rattle.carte_name.specs.Places.{cell_at, column_of, row_of}
use Rattle.carte_name.proofs.Places.{place_within}
use Rattle.carte_value.specs.declared.area.Area.{Area}
use Rattle.carte_value.specs.Areas.{IsArea, area_of, row_cells, cells_of, size_of}

pub area_within : (a b : List ℕ) → is_cell_name a ≡ true → is_cell_name b ≡ true → IsArea (area_of a b)
unfolding area_of
area_within a b cell cell' =
    let p = place_within a cell in
    let q = place_within b cell' in
    record {
      first = record { first_column = omega (arith, p.first_column, q.first_column); last_column = omega (arith, p.last_column); first_row = omega (arith, p.first_row, q.first_row); last_row = omega (arith, p.last_row) };
      last = record { first_column = omega (arith, p.first_column); last_column = omega (arith, p.last_column, q.last_column); first_row = omega (arith, p.first_row); last_row = omega (arith, p.last_row, q.last_row) };
      across = omega arith;
      down = omega arith;
    }

pub row_more : (area : Area) (before after : List (List ℕ)) (names now : List (List ℕ)) (c r : ℕ) (k : List ℕ) → area.left ≤ c → names ≡ before ++ map (λ d. cell_at d r) (range_with_len area.left (c - area.left)) → k ≡ cell_at c r → now ≡ names ++ k ∷ [] → now ≡ before ++ map (λ d. cell_at d r) (range_with_len area.left (c + 1 - area.left))
row_more area before after names now c r k reached was is grown =
    let step : c + 1 - area.left ≡ (c - area.left) + 1 = omega arith in
    rw (grown, was, is, step, map-range_with_len_more (λ d. cell_at d r) area.left (c - area.left) c (omega arith)) (append_assoc before (map (λ d. cell_at d r) (range_with_len area.left (c - area.left))) (cell_at c r ∷ []))

range_more : (a n j : ℕ) → a + n ≡ j → range_with_len a (n + 1) ≡ range_with_len a n ++ j ∷ []
range_more a n j is = sym (map-id (range_with_len a (n + 1))) ∙ map-range_with_len_more (λ x. x) a n j is ∙ ap (λ xs. xs ++ j ∷ []) (map-id (range_with_len a n))

pub rows_more : (area : Area) (names now : List (List ℕ)) (r : ℕ) → area.top ≤ r → names ≡ flat_map (row_cells area) (range_with_len area.top (r - area.top)) → now ≡ names ++ row_cells area r → now ≡ flat_map (row_cells area) (range_with_len area.top (r + 1 - area.top))
rows_more area names now r reached was grown =
    let step : r + 1 - area.top ≡ (r - area.top) + 1 = omega arith in
    let rows : range_with_len area.top (r + 1 - area.top) ≡ range_with_len area.top (r - area.top) ++ r ∷ [] = ap (range_with_len area.top) step ∙ range_more area.top (r - area.top) r (omega arith) in
    grown ∙ ap₂ (λ xs ys. xs ++ ys) was (sym (append-nil (row_cells area r))) ∙ sym (ap (flat_map (row_cells area)) rows ∙ flat_map-append (row_cells area) (range_with_len area.top (r - area.top)) (r ∷ []))

rows_number : (a : Area) (t n : ℕ) → length (flat_map (row_cells a) (range_with_len t n)) ≡ n * (a.right + 1 - a.left)
rows_number a t zero = sym (zero-mul (a.right + 1 - a.left))
rows_number a t (suc n) =
    length-append (row_cells a t) (flat_map (row_cells a) (range_with_len (t + 1) n))
    ∙ ap₂ (λ x y. x + y) (length-map-range_with_len (λ c. cell_at c t) a.left (a.right + 1 - a.left)) (rows_number a (t + 1) n)
    ∙ sym (suc-mul n (a.right + 1 - a.left) ∙ add_comm (n * (a.right + 1 - a.left)) (a.right + 1 - a.left))

pub size_is_number : (a : Area) → size_of a ≡ length (cells_of a)
size_is_number a = mul_comm (a.right + 1 - a.left) (a.bottom + 1 - a.top) ∙ sym (rows_number a a.top (a.bottom + 1 - a.top))

abbrev pub record_of : ℕ → ℕ → ℕ → ℕ → Area
record_of l t r b = record { left = l; top = t; right = r; bottom = b }

pub area_is : (a b : List ℕ) (c r c' r' left top right bottom : ℕ) → c ≡ column_of a → r ≡ row_of a → c' ≡ column_of b → r' ≡ row_of b → left ≡ min c c' → top ≡ min r r' → right ≡ max c c' → bottom ≡ max r r' → record_of left top right bottom ≡ area_of a b
unfolding area_of
area_is a b c r c' r' left top right bottom p q p' q' is is' is'' is''' = rw (is, is', is'', is''', p, q, p', q') refl

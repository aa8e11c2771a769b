-- Cells by their places, written and read.
use Rattle.std.proofs.Common.{◌≡◌, ℕ, ◌+◌, ◌-◌, ◌*◌, ◌/◌, ◌%◌, ◌<◌, ◌≤◌, true, ◌&&◌, nat_le, List, [], ◌∷◌, ◌++◌, length, slice_index, get_or, ap, ap₂, sym, ◌∙◌, subst, arith, decimal, encode_utf8}
use Rattle.std.specs.List.{list_all}
use Rattle.std.specs.Char.{digit_value}
use Rattle.std.specs.Str.Parse.{digits_value}
use Rattle.std.proofs.lemmas.Bool.{and_parts, le-leb, lt-leb, leb-true, or_right}
use Rattle.std.proofs.lemmas.Str.{encode_ascii}
use Rattle.carte_name.specs.Names.{is_digit, is_row, is_name}
use Rattle.carte_name.specs.Places.{column_name, cell_at, IsPlace}
use Rattle.carte_name.proofs.Places.{at_is_cell}

row_digits : (ds : List ℕ) → is_row ds ≡ true → list_all is_digit ds ≡ true
row_digits ds row = (and_parts (nat_le 1 (length ds) && nat_le (length ds) 4) (list_all is_digit ds) (and_parts ((nat_le 1 (length ds) && nat_le (length ds) 4) && list_all is_digit ds) (nat_le 49 (slice_index ds 0)) row).0).1

-- the byte is a digit, so this is its value
abbrev Told : ℕ → ℕ → Type 0
Told b n = 48 ≤ b → b ≤ 57 → n ≡ digit_value b

pub four_digits : (ds : List ℕ) (w x y z : ℕ) → is_row ds ≡ true → length ds ≡ 4 → Told (get_or ds 0 0) w → Told (get_or ds 1 0) x → Told (get_or ds 2 0) y → Told (get_or ds 3 0) z → w * 1000 + x * 100 + y * 10 + z ≡ digits_value 10 ds
four_digits [] w x y z row long a b c d = absurd (omega arith)
four_digits (p ∷ []) w x y z row long a b c d = absurd (omega arith)
four_digits (p ∷ q ∷ []) w x y z row long a b c d = absurd (omega arith)
four_digits (p ∷ q ∷ r ∷ []) w x y z row long a b c d = absurd (omega arith)
four_digits (p ∷ q ∷ r ∷ s ∷ t ∷ ds) w x y z row long a b c d = absurd (omega arith)
four_digits (p ∷ q ∷ r ∷ s ∷ []) w x y z row long a b c d =
    let all : list_all is_digit (p ∷ q ∷ r ∷ s ∷ []) ≡ true = row_digits (p ∷ q ∷ r ∷ s ∷ []) row in
    let one = and_parts (is_digit p) (list_all is_digit (q ∷ r ∷ s ∷ [])) all in
    let two = and_parts (is_digit q) (list_all is_digit (r ∷ s ∷ [])) one.1 in
    let three = and_parts (is_digit r) (list_all is_digit (s ∷ [])) two.1 in
    let four = and_parts (is_digit s) true three.1 in
    omega (arith, told p w one.0 a, told q x two.0 b, told r y three.0 c, told s z four.0 d)
  where
    told : (b n : ℕ) → is_digit b ≡ true → Told b n → n ≡ digit_value b
    told b n digit h = let parts = and_parts (nat_le 48 b) (nat_le b 57) digit in h (leb-true 48 b parts.0) (leb-true b 57 parts.1)

pub written_short : (c r a : ℕ) (text : List ℕ) → c ≤ 26 → a ≡ 64 + c → text ≡ encode_utf8 a ++ decimal r → text ≡ cell_at c r
unfolding cell_at column_name
written_short c r a text short is written = rw (le-leb c 26 short) (written ∙ ap (λ xs. xs ++ decimal r) (encode_ascii a (omega arith) ∙ ap (λ n. n ∷ []) is))

pub written_long : (c r a b : ℕ) (text : List ℕ) → 26 < c → c ≤ 702 → a ≡ 64 + (c - 1) / 26 → b ≡ 65 + (c - 1) % 26 → text ≡ encode_utf8 a ++ (encode_utf8 b ++ decimal r) → text ≡ cell_at c r
unfolding cell_at column_name
written_long c r a b text long few is is' written =
    rw (lt-leb c 26 long) (written ∙ ap₂ (λ xs ys. xs ++ (ys ++ decimal r)) (encode_ascii a (omega arith) ∙ ap (λ n. n ∷ []) is) (encode_ascii b (omega arith) ∙ ap (λ n. n ∷ []) is'))

pub at_is_name : (c r : ℕ) (text : List ℕ) → IsPlace c r → text ≡ cell_at c r → is_name text ≡ true
at_is_name c r text place is = subst (λ u. is_name u ≡ true) (sym is) (or_right _ _ (at_is_cell c r place))

-- Names are ASCII, and so texts.
use Rattle.std.proofs.Common.{◌≡◌, ℕ, zero, suc, ◌<◌, ◌≤◌, Bool, true, false, sym, ◌∙◌, nat_le, List, [], ◌∷◌, length, slice_index, ◌+◌, ◌&&◌, arith, inl, inr, IsUtf8}
use Rattle.std.specs.List.{list_all}
use Rattle.std.specs.Str.{IsAscii}
use Rattle.std.proofs.lemmas.Str.{IsUtf8-from_ascii}
use Rattle.std.proofs.lemmas.Bool.{and_parts, or_cases, cases_Bool, leb-true}
use Rattle.std.proofs.lemmas.Bool.Decides.{nat_tests}
use Rattle.carte_name.specs.Names.{is_name_byte, is_digit, is_lower, is_upper, is_row, is_rule_name, is_cell_name, is_name}

-- ASCII, and at most so long
record IsShort (k : List ℕ) (most : ℕ) : Type 0 where
  ascii : IsAscii k
  short : length k ≤ most

ascii_more : (x : ℕ) (xs : List ℕ) → x < 128 → IsAscii xs → IsAscii (x ∷ xs)
ascii_more x xs small ascii zero = small
ascii_more x xs small ascii (suc i) = ascii i

all_ascii : (test : ℕ → Bool) → ((b : ℕ) → test b ≡ true → b < 128) → (xs : List ℕ) → list_all test xs ≡ true → IsAscii xs
all_ascii test small [] all = λ i. omega arith
all_ascii test small (x ∷ xs) all =
    let parts : (test x ≡ true) × (list_all test xs ≡ true) = and_parts (test x) (list_all test xs) all in
    ascii_more x xs (small x parts.0) (all_ascii test small xs parts.1)

byte_small : (b : ℕ) → is_name_byte b ≡ true → b < 128
byte_small b is = grind (arith, nat_tests)

digit_small : (b : ℕ) → is_digit b ≡ true → b < 128
digit_small b is = grind (arith, nat_tests)

upper_small : (b : ℕ) → is_upper b ≡ true → b < 128
upper_small b is = grind (arith, nat_tests)

rule_short : (k : List ℕ) → is_rule_name k ≡ true → IsShort k 64
rule_short k is =
    let parts = and_parts ((nat_le 1 (length k) && nat_le (length k) 64) && is_lower (slice_index k 0)) (list_all is_name_byte k) is in
    let front = and_parts (nat_le 1 (length k) && nat_le (length k) 64) (is_lower (slice_index k 0)) parts.0 in
    let long = and_parts (nat_le 1 (length k)) (nat_le (length k) 64) front.0 in
    record { ascii = all_ascii is_name_byte byte_small k parts.1; short = leb-true (length k) 64 long.1 }

row_short : (x : List ℕ) → is_row x ≡ true → IsShort x 4
row_short x is =
    let parts = and_parts ((nat_le 1 (length x) && nat_le (length x) 4) && list_all is_digit x) (nat_le 49 (slice_index x 0)) is in
    let front = and_parts (nat_le 1 (length x) && nat_le (length x) 4) (list_all is_digit x) parts.0 in
    let long = and_parts (nat_le 1 (length x)) (nat_le (length x) 4) front.0 in
    record { ascii = all_ascii is_digit digit_small x front.1; short = leb-true (length x) 4 long.1 }

letter_row : (a : ℕ) (x : List ℕ) (most : ℕ) → is_upper a ≡ true → IsShort x most → IsShort (a ∷ x) (most + 1)
letter_row a x most upper row = record { ascii = ascii_more a x (upper_small a upper) row.ascii; short = (let below = row.short in omega arith) }

longer : (k : List ℕ) (few most : ℕ) → few ≤ most → IsShort k few → IsShort k most
longer k few most le is = record { ascii = is.ascii; short = (let below = is.short in omega arith) }

cell_short : (k : List ℕ) → is_cell_name k ≡ true → IsShort k 64
cell_short [] is = cc
cell_short (a ∷ []) is = let row = (and_parts (is_upper a) (is_row []) is).1 in cc
cell_short (a ∷ b ∷ x) is = elim (cases_Bool (is_upper b)) [
  | inl letter ↦ (let parts : (is_upper a ≡ true) × (is_row x ≡ true) = and_parts _ _ (rw letter at is) in longer (a ∷ b ∷ x) 6 64 (omega arith) (letter_row a (b ∷ x) 5 parts.0 (letter_row b x 4 letter (row_short x parts.1))))
  | inr other ↦ (let parts : (is_upper a ≡ true) × (is_row (b ∷ x) ≡ true) = and_parts _ _ (rw other at is) in longer (a ∷ b ∷ x) 5 64 (omega arith) (letter_row a (b ∷ x) 4 parts.0 (row_short (b ∷ x) parts.1)))
]

name_short : (k : List ℕ) → is_name k ≡ true → IsShort k 64
name_short k is = elim (or_cases (is_rule_name k) (is_cell_name k) is) [
  | inl rule ↦ rule_short k rule
  | inr cell ↦ cell_short k cell
]

pub name_at_most : (k : List ℕ) → is_name k ≡ true → length k ≤ 64
name_at_most k is = (name_short k is).short

pub name_utf8 : (k : List ℕ) → is_name k ≡ true → IsUtf8 k
name_utf8 k is = IsUtf8-from_ascii k (name_short k is).ascii

one_case : (b : ℕ) → is_upper b ≡ true → is_lower b ≡ false
one_case b upper = grind (arith, nat_tests)

other_case : (b : ℕ) → is_lower b ≡ true → is_upper b ≡ false
other_case b lower = grind (arith, nat_tests)

rule_lower : (k : List ℕ) → is_rule_name k ≡ true → is_lower (slice_index k 0) ≡ true
rule_lower k rule =
    let parts = and_parts ((nat_le 1 (length k) && nat_le (length k) 64) && is_lower (slice_index k 0)) (list_all is_name_byte k) rule in
    (and_parts (nat_le 1 (length k) && nat_le (length k) 64) (is_lower (slice_index k 0)) parts.0).1

cell_upper : (k : List ℕ) → is_cell_name k ≡ true → is_upper (slice_index k 0) ≡ true
cell_upper k cell = (and_parts (is_upper (slice_index k 0)) _ cell).0

-- the first byte tells rules from cells
pub rule_by_first : (k : List ℕ) → is_name k ≡ true → is_lower (slice_index k 0) ≡ is_rule_name k
rule_by_first k is = elim (cases_Bool (is_rule_name k)) [
  | inl rule ↦ rule_lower k rule ∙ sym rule
  | inr isnt ↦ elim (or_cases (is_rule_name k) (is_cell_name k) is) [
    | inl rule ↦ cc
    | inr cell ↦ one_case (slice_index k 0) (cell_upper k cell) ∙ sym isnt
  ]
]

pub cell_by_first : (k : List ℕ) → is_name k ≡ true → is_upper (slice_index k 0) ≡ is_cell_name k
cell_by_first k is = elim (cases_Bool (is_cell_name k)) [
  | inl cell ↦ cell_upper k cell ∙ sym cell
  | inr isnt ↦ elim (or_cases (is_rule_name k) (is_cell_name k) is) [
    | inl rule ↦ other_case (slice_index k 0) (rule_lower k rule) ∙ sym isnt
    | inr cell ↦ cc
  ]
]

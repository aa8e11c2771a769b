-- Texts of cells in upper case.
use Rattle.std.proofs.Common.{◌≡◌, ℕ, true, false, cond, drop, arith, nat_le, List, [], ◌∷◌, slice_index, map, refl, ap, ◌∙◌, inl, inr}
use Rattle.std.specs.List.{list_all}
use Rattle.std.specs.Char.{to_ascii_uppercase}
use Rattle.std.specs.Str.{str_to_ascii_uppercase}
use Rattle.std.proofs.lemmas.Bool.{cases_Bool, and_parts}
use Rattle.std.proofs.lemmas.Bool.Decides.{nat_tests}
use Rattle.std.proofs.lemmas.List.{length-map}
use Rattle.carte_name.specs.Names.{is_digit, is_upper, is_letter, is_row, is_cell_name}

pub upper_raised : (a : ℕ) → is_upper (to_ascii_uppercase a) ≡ is_letter a
upper_raised a = grind (arith, nat_tests)

digit_raised : (a : ℕ) → is_digit (to_ascii_uppercase a) ≡ is_digit a
digit_raised a = grind (arith, nat_tests)

high_raised : (a : ℕ) → nat_le 49 (to_ascii_uppercase a) ≡ nat_le 49 a
high_raised a = grind (arith, nat_tests)

pub row_raised : (x : List ℕ) → is_row (map to_ascii_uppercase x) ≡ is_row x
row_raised x = rw (length-map x to_ascii_uppercase, digits x, high x) refl
  where
    digits : (y : List ℕ) → list_all is_digit (map to_ascii_uppercase y) ≡ list_all is_digit y
    digits [] = refl
    digits (b ∷ y) = rw (digit_raised b, digits y) refl

    high : (y : List ℕ) → nat_le 49 (slice_index (map to_ascii_uppercase y) 0) ≡ nat_le 49 (slice_index y 0)
    high [] = refl
    high (b ∷ y) = high_raised b

pub letter_raised : (x : List ℕ) → is_upper (slice_index (map to_ascii_uppercase x) 0) ≡ is_letter (slice_index x 0)
letter_raised [] = refl
letter_raised (b ∷ y) = upper_raised b

-- a row begins with no letter
pub row_first : (x : List ℕ) → is_row x ≡ true → is_letter (slice_index x 0) ≡ false
row_first [] row = cc
row_first (b ∷ y) row =
    let digits : list_all is_digit (b ∷ y) ≡ true = (and_parts _ _ (and_parts _ _ row).0).1 in
    digit_apart b (and_parts _ _ digits).0
  where
    digit_apart : (a : ℕ) → is_digit a ≡ true → is_letter a ≡ false
    digit_apart a digit = grind (arith, nat_tests)

pub no_upper : (a : ℕ) → is_letter a ≡ false → is_upper a ≡ false
no_upper a none = grind (arith, nat_tests)

-- the name of a cell is its own upper case

upper_same : (a : ℕ) → is_upper a ≡ true → to_ascii_uppercase a ≡ a
upper_same a upper = grind (arith, nat_tests)

digit_same : (a : ℕ) → is_digit a ≡ true → to_ascii_uppercase a ≡ a
digit_same a digit = grind (arith, nat_tests)

digits_same : (x : List ℕ) → list_all is_digit x ≡ true → map to_ascii_uppercase x ≡ x
digits_same [] digits = refl
digits_same (b ∷ y) digits =
    let parts = and_parts (is_digit b) (list_all is_digit y) digits in
    ap (λ a. a ∷ map to_ascii_uppercase y) (digit_same b parts.0) ∙ ap (λ x. b ∷ x) (digits_same y parts.1)

row_same : (x : List ℕ) → is_row x ≡ true → map to_ascii_uppercase x ≡ x
row_same x row = digits_same x (and_parts _ _ (and_parts _ _ row).0).1

pub own_upper : (k : List ℕ) → is_cell_name k ≡ true → str_to_ascii_uppercase k ≡ k
own_upper [] cell = refl
own_upper (a ∷ x) cell =
    let first = and_parts (is_upper a) (cond (is_upper (slice_index x 0)) (is_row (drop 1 x)) (is_row x)) cell in
    ap (λ b. b ∷ map to_ascii_uppercase x) (upper_same a first.0) ∙ ap (λ y. a ∷ y) (behind x first.1)
  where
    behind : (y : List ℕ) → cond (is_upper (slice_index y 0)) (is_row (drop 1 y)) (is_row y) ≡ true → map to_ascii_uppercase y ≡ y
    behind [] row = refl
    behind (b ∷ y) row = elim (cases_Bool (is_upper b)) [
      | inr other ↦ row_same (b ∷ y) (rw other at row)
      | inl upper ↦
          let rest : map to_ascii_uppercase y ≡ y = row_same y (rw upper at row) in
          ap (λ c. c ∷ map to_ascii_uppercase y) (upper_same b upper) ∙ ap (λ x. b ∷ x) rest
    ]

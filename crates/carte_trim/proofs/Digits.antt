-- A count is what `parse` reads where no plus stands first.
use Rattle.std.proofs.Common.{◌≡◌, ◌<◌, ◌^◌, ◌==◌, ◌&&◌, ℕ, Bool, true, false, nat_le, if◌then◌else◌, List, length, slice_index, Some, None, Result, Ok, Err, refl, sym, ap, ◌∙◌, arith}
use Rattle.std.specs.Result.{OkIff, result_ok}
use Rattle.std.specs.Str.{all_ascii_digits}
use Rattle.std.specs.Str.Parse.{ParsesUnsigned, digits_value}
use Rattle.std.proofs.lemmas.Bool.{eqb-false, eqb-true, le-leb, leb-true}
use Rattle.std.proofs.lemmas.Str.Parse.{IsNumeralModel, not_in_digits, numerals_by_value, parse_plain, tells_all_ascii_digits}
use Rattle.carte_words.specs.Numbers.{is_numeral, seed_in}
use Rattle.carte_compact.proofs.Bare.{both}

decimals : IsNumeralModel (λ ds. all_ascii_digits ds ≡ true) (digits_value 10)
decimals = numerals_by_value (λ ds. all_ascii_digits ds ≡ true) tells_all_ascii_digits

module _ (t : List ℕ) where
  abbrev n : ℕ
  n = digits_value 10 t

  -- what is asked of the digits of a number of 64 bits
  abbrev IsRead : Type 0
  IsRead = (all_ascii_digits t ≡ true) × (0 < length t) × (n < 2 ^ 64)

  unread : ¬ IsRead → None ≡ seed_in t
  unread not_so = by (is_numeral t && (nat_le 0 n && nat_le n 18446744073709551615)) refl
    where
      by : (b : Bool) → (is_numeral t && (nat_le 0 n && nat_le n 18446744073709551615)) ≡ b → None ≡ (if b then Some n else None)
      by false is = refl
      by true is =
          let (numeral, within) = both (is_numeral t) (nat_le 0 n && nat_le n 18446744073709551615) is in
          let (some, digits) = both (nat_le 1 (length t)) (all_ascii_digits t) numeral in
          let (least, most) = both (nat_le 0 n) (nat_le n 18446744073709551615) within in
          absurd (not_so (digits, omega (arith, leb-true 1 (length t) some), omega (arith, leb-true n 18446744073709551615 most)))

  told : {E : Type 0} (r : Result ℕ E) → OkIff r IsRead n → result_ok r ≡ seed_in t
  told (Ok m) (is, same) =
      ap Some same
      ∙ sym (rw (is.0, le-leb 1 (length t) (omega (arith, is.1)), le-leb 0 n (omega arith), le-leb n 18446744073709551615 (omega (arith, is.2))) refl)
  told (Err e) not_so = unread not_so

  pub parsed : {E : Type 0} (r : Result ℕ E) → (slice_index t 0 == 43) ≡ false → ParsesUnsigned 64 10 t r → result_ok r ≡ seed_in t
  parsed r plain parses = told r (parse_plain decimals 64 t r parses (eqb-false (slice_index t 0) 43 plain))

  pub signed : (slice_index t 0 == 43) ≡ true → None ≡ seed_in t
  signed plus = unread (λ is. not_in_digits decimals t 43 is.0 (λ within. omega (arith, within.0)) 0 is.1 (eqb-true (slice_index t 0) 43 plus))

-- Seeds are what `parse` reads where no plus stands first, and numbers where one may.
use Rattle.std.proofs.Common.{◌≡◌, ◌<◌, ◌^◌, ◌==◌, ◌&&◌, cond, drop, ℕ, Bool, true, false, nat_le, if◌then◌else◌, List, length, slice_index, Some, None, Result, Ok, Err, refl, sym, ap, ◌∙◌, arith}
use Rattle.std.specs.Result.{OkIff, result_ok}
use Rattle.std.specs.Str.{all_ascii_digits}
use Rattle.std.specs.Str.Parse.{ParsesUnsigned, digits_value}
use Rattle.std.proofs.lemmas.Bool.{le-leb, leb-true, eqb-false, eqb-true}
use Rattle.std.proofs.lemmas.Str.Parse.{IsNumeralModel, numerals_by_value, tells_all_ascii_digits, parse_plain, parse_plus, not_in_digits}
use Rattle.carte_words.specs.Numbers.{seed_in, number_in}

own : IsNumeralModel (λ ds. all_ascii_digits ds ≡ true) (digits_value 10)
own = numerals_by_value (λ ds. all_ascii_digits ds ≡ true) tells_all_ascii_digits

-- all that is asked of a seed
record IsSeed (t : List ℕ) : Type 0 where
  digits : all_ascii_digits t ≡ true
  some : 0 < length t
  fits : digits_value 10 t < 2 ^ 64

seed_there : (t : List ℕ) → IsSeed t → seed_in t ≡ Some (digits_value 10 t)
seed_there t is =
    rw (is.digits, le-leb 1 (length t) (omega (arith, is.some)), le-leb 0 (digits_value 10 t) (omega arith), le-leb (digits_value 10 t) 18446744073709551615 (omega (arith, is.fits))) refl

no_seed : (t : List ℕ) → ¬ (IsSeed t) → None ≡ seed_in t
no_seed t not = go (nat_le 1 (length t)) refl (all_ascii_digits t) refl (nat_le 0 (digits_value 10 t)) (nat_le (digits_value 10 t) 18446744073709551615) refl
  where
    go : (a : Bool) → nat_le 1 (length t) ≡ a → (b : Bool) → all_ascii_digits t ≡ b → (c d : Bool) → nat_le (digits_value 10 t) 18446744073709551615 ≡ d
        → None ≡ (if (a && b) && (c && d) then Some (digits_value 10 t) else None)
    go true some true digits true true fits = absurd (not (record {
      digits = digits;
      some = omega (arith, leb-true 1 (length t) some);
      fits = omega (arith, leb-true (digits_value 10 t) 18446744073709551615 fits);
    }))
    go true some true digits true false fits = refl
    go true some true digits false d fits = refl
    go true some false digits c d fits = refl
    go false some b digits c d fits = refl

told : {E : Type 0} (t : List ℕ) (r : Result ℕ E) → OkIff r ((all_ascii_digits t ≡ true) × (0 < length t) × (digits_value 10 t < 2 ^ 64)) (digits_value 10 t)
    → result_ok r ≡ seed_in t
told t (Ok n) h = ap Some h.1 ∙ sym (seed_there t (record { digits = h.0.0; some = h.0.1; fits = h.0.2 }))
told t (Err e) h = no_seed t (λ is. h (is.digits, is.some, is.fits))

pub is_seed : {E : Type 0} (t : List ℕ) (r : Result ℕ E) → (slice_index t 0 == 43) ≡ false → ParsesUnsigned 64 10 t r → result_ok r ≡ seed_in t
is_seed t r plain parses = told t r (parse_plain own 64 t r parses (eqb-false (slice_index t 0) 43 plain))

pub is_number : {E : Type 0} (t : List ℕ) (r : Result ℕ E) → ParsesUnsigned 64 10 t r → result_ok r ≡ number_in t
is_number t r parses = go (slice_index t 0 == 43) refl
  where
    go : (plus : Bool) → (slice_index t 0 == 43) ≡ plus → result_ok r ≡ seed_in (drop (cond plus 1 0) t)
    go true plus = told (drop 1 t) r (parse_plus own 64 t r parses (eqb-true (slice_index t 0) 43 plus))
    go false plain = is_seed t r plain parses

pub no_plus : (t : List ℕ) → (slice_index t 0 == 43) ≡ true → None ≡ seed_in t
no_plus t plus = no_seed t (λ is. not_in_digits own t 43 is.digits (λ within. omega (arith, within.0)) 0 is.some (eqb-true (slice_index t 0) 43 plus))

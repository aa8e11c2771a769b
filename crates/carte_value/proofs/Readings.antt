-- A text is read as one value at most, and what was printed as the value.
use Rattle.std.proofs.Common.{◌≡◌, ℕ, ℤ, pos, negsuc, suc, ◌<◌, ◌^◌, false, eqb, List, [], ◌∷◌, refl, ap, sym, ◌∙◌, subst, inl, inr, arith, codes, decimal, FitsSigned, neg_ℤ}
use Rattle.std.specs.Int.{w64}
use Rattle.std.specs.Fmt.{signed_decimal}
use Rattle.std.specs.Str.Parse.{IsNumeral, digits_value, without_leading_sign, signed_digits_value}
use Rattle.std.proofs.lemmas.Bool.{ne_eqb}
use Rattle.std.proofs.lemmas.Int.{ints}
use Rattle.std.proofs.lemmas.Fmt.{decimal_is_IsNumeral}
use Rattle.std.proofs.lemmas.Str.Parse.{digit_from_value}
use Rattle.carte_value.specs.declared.value.Value.TheVariants as value
use Rattle.carte_value.specs.Printed.{quoted}
use Rattle.carte_value.specs.Reading.{IsNumberText, OneReading, PrintedReads}
use Rattle.carte_value.proofs.Quotes.{texts_same}

-- digits alone have no sign
plain_numeral : (ds : List ℕ) → IsNumeral 10 ds → (without_leading_sign ds ≡ ds) × (signed_digits_value 10 ds ≡ pos (digits_value 10 ds))
plain_numeral [] numeral = absurd (omega (arith, numeral.0))
plain_numeral (c ∷ cs) numeral =
    let digit = digit_from_value c numeral.1.0 in
    let minus : eqb c 45 ≡ false = ne_eqb c 45 (λ e. omega (arith, digit, e)) in
    let plus : eqb c 43 ≡ false = ne_eqb c 43 (λ e. omega (arith, digit, e)) in
    (rw (minus, plus) refl, rw (minus, plus) refl)

number_printed : (n : ℤ) → FitsSigned w64 n → IsNumberText (signed_decimal n) n
number_printed (pos k) fits =
    let small : k < 2 ^ 64 = omega (arith, ints) in
    let written = decimal_is_IsNumeral k small in
    let plain = plain_numeral (decimal k) written.0 in
    (subst (IsNumeral 10) (sym plain.0) written.0, fits, sym (plain.1 ∙ ap pos written.1))
number_printed (negsuc k) fits =
    let small : suc k < 2 ^ 64 = omega (arith, ints) in
    let written = decimal_is_IsNumeral (suc k) small in
    (written.0, fits, ap (λ m. neg_ℤ (pos m)) (sym written.1))

pub printed_reads : PrintedReads
printed_reads value.Empty is = inl refl
printed_reads (value.Number n) is = inl (number_printed n is)
printed_reads (value.Text t) is = inl (is, refl)
printed_reads (value.Bad b) is = inr (b, refl)

quotes_no_number : (body : List ℕ) (n : ℤ) → ¬ (IsNumberText (34 ∷ body) n)
quotes_no_number body n is = absurd (omega (arith, is.0.1.0))

empty_no_number : (n : ℤ) → ¬ (IsNumberText (codes "empty") n)
empty_no_number n is = absurd (omega (arith, is.0.1.0))

pub one_reading : OneReading
one_reading text value.Empty value.Empty is is' = refl
one_reading text value.Empty (value.Number n) is is' = absurd (empty_no_number n (subst (λ u. IsNumberText u n) is is'))
one_reading text value.Empty (value.Text t) is is' = let e : codes "empty" ≡ quoted t = sym is ∙ is'.1 in cc
one_reading text (value.Number n) value.Empty is is' = absurd (empty_no_number n (subst (λ u. IsNumberText u n) is' is))
one_reading text (value.Number n) (value.Number m) is is' = ap value.Number (is.2 ∙ sym is'.2)
one_reading text (value.Number n) (value.Text t) is is' = absurd (quotes_no_number _ n (subst (λ u. IsNumberText u n) is'.1 is))
one_reading text (value.Text t) value.Empty is is' = let e : codes "empty" ≡ quoted t = sym is' ∙ is.1 in cc
one_reading text (value.Text t) (value.Number n) is is' = absurd (quotes_no_number _ n (subst (λ u. IsNumberText u n) is.1 is'))
one_reading text (value.Text t) (value.Text u) is is' = ap value.Text (texts_same t u (sym is.1 ∙ is'.1))
one_reading text (value.Bad b) w is is' = absurd is
one_reading text v (value.Bad b) is is' = absurd is'

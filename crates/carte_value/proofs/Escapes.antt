-- Escapes byte by byte and character by character.
use Rattle.std.proofs.Common.{◌≡◌, ℕ, suc, ◌<◌, ◌≤◌, List, [], ◌∷◌, ◌++◌, length, get_or, encode_utf8, encode_utf8_all, refl, ap, sym, ◌∙◌, inl, inr, arith, append-nil}
use Rattle.std.specs.List.{flat_map}
use Rattle.std.proofs.lemmas.Bool.{cases_lt, ne_eqb}
use Rattle.std.proofs.lemmas.Grind.{flat_map-append}
use Rattle.std.proofs.lemmas.Str.{inside_one, encodes-append}
use Rattle.carte_value.specs.Printed.{escaped}

-- it stands for itself between quotes
pub record IsPlain (c : ℕ) : Type 0 where
  pub backslash : ¬ (c ≡ 92)
  pub quote : ¬ (c ≡ 34)
  pub line_feed : ¬ (c ≡ 10)
  pub carriage_return : ¬ (c ≡ 13)
  pub tab : ¬ (c ≡ 9)

pub escaped_plain : (c : ℕ) → IsPlain c → escaped c ≡ c ∷ []
escaped_plain c plain = rw (ne_eqb c 92 plain.backslash, ne_eqb c 34 plain.quote, ne_eqb c 10 plain.line_feed, ne_eqb c 13 plain.carriage_return, ne_eqb c 9 plain.tab) refl

plain_high : (b : ℕ) → 128 ≤ b → IsPlain b
plain_high b high = record {
  backslash = λ e. omega (arith, e);
  quote = λ e. omega (arith, e);
  line_feed = λ e. omega (arith, e);
  carriage_return = λ e. omega (arith, e);
  tab = λ e. omega (arith, e);
}

flat_map_each : (xs : List ℕ) → ((k : ℕ) → k < length xs → escaped (get_or xs k 0) ≡ get_or xs k 0 ∷ []) → flat_map escaped xs ≡ xs
flat_map_each [] each = refl
flat_map_each (x ∷ xs) each = rw (each 0 (omega arith)) (ap (λ ys. x ∷ ys) (flat_map_each xs (λ k below. each (suc k) (omega arith))))

-- every byte of such a character stands for itself
pub escaped_char : (c : ℕ) → IsPlain c → flat_map escaped (encode_utf8 c) ≡ encode_utf8 c
escaped_char c plain = flat_map_each (encode_utf8 c) (λ k below. one k below)
  where
    one : (k : ℕ) → k < length (encode_utf8 c) → escaped (get_or (encode_utf8 c) k 0) ≡ get_or (encode_utf8 c) k 0 ∷ []
    one k below = elim (cases_lt (get_or (encode_utf8 c) k 0) 128) [
      | inl low ↦ (let same : c ≡ get_or (encode_utf8 c) k 0 = inside_one c [] (encode_utf8 c) k (sym (append-nil (encode_utf8 c))) below low in rw (← same) (escaped_plain c plain))
      | inr high ↦ escaped_plain (get_or (encode_utf8 c) k 0) (plain_high (get_or (encode_utf8 c) k 0) high)
    ]

-- one more character of a text in quotes
pub quoted_more : (before after cs : List ℕ) (c : ℕ) → before ≡ 34 ∷ flat_map escaped (encode_utf8_all cs) → after ≡ before ++ flat_map escaped (encode_utf8 c) → after ≡ 34 ∷ flat_map escaped (encode_utf8_all (cs ++ c ∷ []))
quoted_more before after cs c was now =
    let whole : encode_utf8_all (cs ++ c ∷ []) ≡ encode_utf8_all cs ++ encode_utf8 c = encodes-append cs (c ∷ []) ∙ ap (λ xs. encode_utf8_all cs ++ xs) (append-nil (encode_utf8 c)) in
    rw (now, was, whole, flat_map-append escaped (encode_utf8_all cs) (encode_utf8 c)) refl

-- The names of the keys.
use Rattle.std.proofs.Common.{◌≡◌, ℕ, ◌+◌, ◌<◌, ◌≤◌, true, false, ◌&&◌, nat_le, List, [], ◌∷◌, ◌++◌, length, drop, slice_index, Result, Ok, Err, codes, refl, ap, sym, ◌∙◌, arith, decimal, rules}
use Rattle.std.specs.List.{list_all}
use Rattle.std.specs.Str.Parse.{digits_value}
use Rattle.std.proofs.lemmas.Bool.{false≢true, and_from, and_parts, or_left, or_right, le-leb}
use Rattle.std.proofs.lemmas.Fmt.{decimal_is_IsNumeral, decimal_injective, length-decimal-le}
use Rattle.std.proofs.lemmas.Str.Parse.{IsNumeralModel, numerals_by_value}
use Rattle.carte_name.specs.Names.{is_digit, is_lower, is_name_byte, is_rule_name}
use Rattle.carte_name.specs.Prefixes.{IsNameRead}
use Rattle.carte_name.specs.declared.name_fault.NameFault.{NameFault}
use Rattle.carte_name.specs.declared.name_fault.NameFault.TheVariants.{BadName, NoMemory}
use Rattle.carte_generate.specs.Generated.{key}

own : IsNumeralModel (λ ds. list_all is_digit ds ≡ true) (digits_value 10)
own = numerals_by_value (λ ds. list_all is_digit ds ≡ true) (search rules)

digit_of_name : (b : ℕ) → is_digit b ≡ true → is_name_byte b ≡ true
digit_of_name b digit = or_left _ _ (or_left _ _ (or_left _ _ (or_right (is_lower b) (is_digit b) digit)))

digits_of_name : (ds : List ℕ) → list_all is_digit ds ≡ true → list_all is_name_byte ds ≡ true
digits_of_name [] digits = refl
digits_of_name (d ∷ ds) digits =
    let parts = and_parts (is_digit d) (list_all is_digit ds) digits in
    and_from _ _ (digit_of_name d parts.0) (digits_of_name ds parts.1)

-- each key is a name of a rule file
pub key_is_name : (i : ℕ) → i < 262144 → is_rule_name (key i) ≡ true
unfolding key
key_is_name i few =
    let digits : list_all is_digit (decimal i) ≡ true = own.from (decimal i) (decimal_is_IsNumeral i (omega arith)).0.1 in
    let short : length (decimal i) ≤ 6 = length-decimal-le 6 i (omega arith) (omega arith) (omega arith) in
    let long : length (107 ∷ decimal i) ≡ length (decimal i) + 1 = omega arith in
    and_from _ _ (and_from _ _ (and_from _ _ (le-leb 1 (length (107 ∷ decimal i)) (omega arith)) (le-leb (length (107 ∷ decimal i)) 64 (omega arith))) refl) (digits_of_name (decimal i) digits)

-- and each is another
pub one_key : (i j : ℕ) → i < 262144 → j < 262144 → key i ≡ key j → i ≡ j
unfolding key
one_key i j few few' same = decimal_injective i j (omega arith) (omega arith) (ap (drop 1) same)

-- the text of a key is read as the key
pub name_read : (i : ℕ) (text k : List ℕ) (r : Result (List ℕ) NameFault) → text ≡ codes "k" ++ decimal i → IsNameRead is_rule_name text text r → r ≡ Ok k → k ≡ key i
unfolding key
name_read i text k r written read is = (told r k read is) ∙ written
  where
    told : (s : Result (List ℕ) NameFault) (j : List ℕ) → IsNameRead is_rule_name text text s → s ≡ Ok j → j ≡ text
    told (Ok l) j h e = let same : j ≡ l = cc in same ∙ h.1
    told (Err fault) j h e = cc

-- and is no bad name
pub never_bad : (i : ℕ) (text : List ℕ) (r : Result (List ℕ) NameFault) (place : ℕ) → i < 262144 → text ≡ codes "k" ++ decimal i → IsNameRead is_rule_name text text r → r ≡ Err (BadName place) → ⊥
unfolding key
never_bad i text r place few written read is = told r read is
  where
    good : is_rule_name text ≡ true
    good = ap is_rule_name written ∙ key_is_name i few

    told : (s : Result (List ℕ) NameFault) → IsNameRead is_rule_name text text s → s ≡ Err (BadName place) → ⊥
    told (Ok l) h e = cc
    told (Err (BadName p)) h e = false≢true (sym h.0 ∙ good)
    told (Err NoMemory) h e = cc

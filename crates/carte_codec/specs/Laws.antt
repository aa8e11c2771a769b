-- Spellings are one, by how they are made.
use Rattle.std.proofs.Common.{◌≡◌, ℕ, Bool, true, false, List, [], ◌∷◌, ◌++◌, length, refl, ap, sym, ◌∙◌, append_assoc, Option, Some, None}
use Rattle.std.specs.Int.{w32, from_be_bytes}
use Rattle.std.specs.List.{flat_map}
use Rattle.std.proofs.lemmas.Nat.{from_be_bytes-to_be_bytes_4}
use Rattle.carte_value.specs.declared.digest.Digest.{Digest}
use Rattle.carte_value.specs.declared.link.Link.{Link}
use Rattle.carte_value.specs.Spelling.{spelling, IsValue}
use Rattle.carte_value.proofs.Bytes as values
use Rattle.carte_value.proofs.Bytes.{prefixes_same}
use Rattle.carte_codec.specs.Each.{EachFits}
use Rattle.carte_codec.specs.Spellings.{OneSpelling}
use Rattle.carte_codec.specs.Parts.{spelled_count, FitsCount, spelled_name, FitsName, spelled_digest, FitsDigest, spelled_bool, spelled_pair, FitsPair, spelled_option, FitsOption, spelled_list, FitsList, spelled_link, FitsLink}

pub count_one : OneSpelling spelled_count FitsCount
count_one = record {
  one = λ m n r s fits fits' same.
      let parts : (spelled_count m ≡ spelled_count n) × (r ≡ s) = prefixes_same (spelled_count m) (spelled_count n) r s refl same in
      (sym (from_be_bytes-to_be_bytes_4 m fits) ∙ ap (from_be_bytes w32) parts.0 ∙ from_be_bytes-to_be_bytes_4 n fits', parts.1);
}

pub name_one : OneSpelling spelled_name FitsName
name_one = record {
  one = λ j k r s fits fits' same.
      let rest : j ++ r ≡ k ++ s = cc in
      prefixes_same j k r s (cc) rest;
}

pub digest_one : OneSpelling spelled_digest FitsDigest
digest_one = record {
  one = λ d e r s fits fits' same.
      let parts : (d.0 ≡ e.0) × (r ≡ s) = prefixes_same d.0 e.0 r s (fits ∙ sym fits') same in
      (ap (λ (bytes : List ℕ). let made : Digest = record { 0 = bytes } in made) parts.0, parts.1);
}

pub value_one : OneSpelling spelling IsValue
value_one = record { one = values.one_spelling }

bools_same : (b c : Bool) (r s : List ℕ) → spelled_bool b ++ r ≡ spelled_bool c ++ s → (b ≡ c) × (r ≡ s)
bools_same false false r s same = (refl, cc)
bools_same true true r s same = (refl, cc)
bools_same b c r s same = let no : ⊥ = cc in absurd no

pub bool_one : OneSpelling spelled_bool (λ b. Unit {0})
bool_one = record { one = λ b c r s fits fits' same. bools_same b c r s same }

pub pair_one : {A B : Type 0} {first : A → List ℕ} {second : B → List ℕ} {fits_first : A → Type 0} {fits_second : B → Type 0} → OneSpelling first fits_first → OneSpelling second fits_second → OneSpelling (spelled_pair first second) (FitsPair fits_first fits_second)
pair_one {first = first} {second = second} one two = record {
  one = λ p q r s fits fits' same.
      let whole : first p.0 ++ (second p.1 ++ r) ≡ first q.0 ++ (second q.1 ++ s) = sym (append_assoc (first p.0) (second p.1) r) ∙ same ∙ append_assoc (first q.0) (second q.1) s in
      let front : (p.0 ≡ q.0) × (second p.1 ++ r ≡ second q.1 ++ s) = one.one p.0 q.0 (second p.1 ++ r) (second q.1 ++ s) fits.0 fits'.0 whole in
      let back : (p.1 ≡ q.1) × (r ≡ s) = two.one p.1 q.1 r s fits.1 fits'.1 front.1 in
      (ap (λ x. (x, p.1)) front.0 ∙ ap (λ y. (q.0, y)) back.0, back.1);
}

options_same : {A : Type 0} (spelled : A → List ℕ) (fits : A → Type 0) → OneSpelling spelled fits → (v w : Option A) (r s : List ℕ) → FitsOption fits v → FitsOption fits w → spelled_option spelled v ++ r ≡ spelled_option spelled w ++ s → (v ≡ w) × (r ≡ s)
options_same spelled fits one None None r s is is' same = (refl, cc)
options_same spelled fits one (Some x) (Some y) r s is is' same =
    let rest : spelled x ++ r ≡ spelled y ++ s = cc in
    let parts : (x ≡ y) × (r ≡ s) = one.one x y r s is is' rest in
    (ap Some parts.0, parts.1)
options_same spelled fits one v w r s is is' same = let no : ⊥ = cc in absurd no

pub option_one : {A : Type 0} {spelled : A → List ℕ} {fits : A → Type 0} → OneSpelling spelled fits → OneSpelling (spelled_option spelled) (FitsOption fits)
option_one {spelled = spelled} {fits = fits} one = record { one = options_same spelled fits one }

-- as many items, one after the other
pub items_same : {A : Type 0} (spelled : A → List ℕ) (fits : A → Type 0) → OneSpelling spelled fits → (xs ys : List A) (r s : List ℕ) → length xs ≡ length ys → EachFits fits xs → EachFits fits ys → flat_map spelled xs ++ r ≡ flat_map spelled ys ++ s → (xs ≡ ys) × (r ≡ s)
items_same spelled fits one [] [] r s many is is' same = (refl, same)
items_same spelled fits one (x ∷ xs) (y ∷ ys) r s many is is' same =
    let whole : spelled x ++ (flat_map spelled xs ++ r) ≡ spelled y ++ (flat_map spelled ys ++ s) = sym (append_assoc (spelled x) (flat_map spelled xs) r) ∙ same ∙ append_assoc (spelled y) (flat_map spelled ys) s in
    let front : (x ≡ y) × (flat_map spelled xs ++ r ≡ flat_map spelled ys ++ s) = one.one x y (flat_map spelled xs ++ r) (flat_map spelled ys ++ s) is.0 is'.0 whole in
    let many' : length xs ≡ length ys = cc in
    let back : (xs ≡ ys) × (r ≡ s) = items_same spelled fits one xs ys r s many' is.1 is'.1 front.1 in
    (ap (λ z. z ∷ xs) front.0 ∙ ap (λ zs. y ∷ zs) back.0, back.1)
items_same spelled fits one xs ys r s many is is' same = let no : ⊥ = cc in absurd no

pub list_one : {A : Type 0} {spelled : A → List ℕ} {fits : A → Type 0} → OneSpelling spelled fits → OneSpelling (spelled_list spelled) (FitsList fits)
list_one {spelled = spelled} {fits = fits} one = record {
  one = λ xs ys r s is is' same.
      let whole : spelled_count (length xs) ++ (flat_map spelled xs ++ r) ≡ spelled_count (length ys) ++ (flat_map spelled ys ++ s) = sym (append_assoc (spelled_count (length xs)) (flat_map spelled xs) r) ∙ same ∙ append_assoc (spelled_count (length ys)) (flat_map spelled ys) s in
      let front : (length xs ≡ length ys) × (flat_map spelled xs ++ r ≡ flat_map spelled ys ++ s) = count_one.one (length xs) (length ys) (flat_map spelled xs ++ r) (flat_map spelled ys ++ s) is.0 is'.0 whole in
      items_same spelled fits one xs ys r s front.0 is.1 is'.1 front.1;
}

-- what is spelled as something else is, from which it can be told
pub as_one : {S P : Type 0} {spelled : P → List ℕ} {fits : P → Type 0} (to : S → P) (from : P → S) (fits_whole : S → Type 0) → ((x : S) → fits_whole x → fits (to x) × (from (to x) ≡ x)) → OneSpelling spelled fits → OneSpelling (λ x. spelled (to x)) fits_whole
as_one to from fits_whole back one = record {
  one = λ v w r s is is' same.
      let parts : (to v ≡ to w) × (r ≡ s) = one.one (to v) (to w) r s (back v is).0 (back w is').0 same in
      (sym (back v is).1 ∙ ap from parts.0 ∙ (back w is').1, parts.1);
}

pub link_one : OneSpelling spelled_link FitsLink
link_one = as_one (λ (l : Link). (l.name, l.digest)) (λ p. let l : Link = record { name = p.0; digest = p.1 } in l) FitsLink (λ l fit. (fit, refl)) (pair_one name_one digest_one)

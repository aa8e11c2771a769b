-- Spellings and the bytes that begin with one.
use Rattle.std.proofs.Common.{◌≡◌, ℕ, ℤ, ◌<◌, ◌≤◌, ◌^◌, List, ◌++◌, length, take, drop, get_or, refl, ap, sym, ◌∙◌, subst, arith, FitsSigned, take-append-drop, length-take-le, get_or-take, IsUtf8, length-take, inl, inr, append_assoc}
use Rattle.std.specs.Int.{w32, w64, to_be_bytes, from_be_bytes, cast_signed, cast_unsigned}
use Rattle.std.proofs.Math.Facts.{sfits_to_z, Fits-of_lt, Fits-of_z, Fits-lt-pow}
use Rattle.std.proofs.lemmas.Bool.{cases_lt}
use Rattle.std.proofs.lemmas.List.{get_or_past, take_at, drop_at}
use Rattle.std.proofs.lemmas.Int.{to_z-of_z, of_z-to_z}
use Rattle.std.proofs.lemmas.Nat.{be_bytes_4, be_bytes_8, from_be_bytes-to_be_bytes_4, from_be_bytes-to_be_bytes_8}
use Rattle.carte_value.specs.Texts.{IsText}
use Rattle.carte_value.specs.declared.value.Bad.{Bad}
use Rattle.carte_value.specs.declared.value.Bad.TheVariants as bad
use Rattle.carte_value.specs.declared.value.Value.TheVariants as value
use Rattle.carte_value.specs.Spelling.{spelled_number, spelled_text, bad_code, OneSpelling}

from_be_small : (bs : List ℕ) → ((i : ℕ) → get_or bs i 0 < 256) → from_be_bytes w64 bs < 2 ^ 64
from_be_small bs small = omega (arith, small 0, small 1, small 2, small 3, small 4, small 5, small 6, small 7)

-- the first n bytes are bytes
prefix_small : (bs : List ℕ) (n : ℕ) → ((i : ℕ) → get_or bs i 0 < 256) → (i : ℕ) → get_or (take n bs) i 0 < 256
prefix_small bs n small i = elim (cases_lt i n) [
  | inl below ↦ rw (get_or-take n bs i 0 below) (small i)
  | inr past ↦ rw (get_or_past (take n bs) i 0 (omega (arith, length-take n bs))) (omega arith)
]

pub number_found : (bs chunk : List ℕ) (n : ℤ) → ((i : ℕ) → get_or bs i 0 < 256) → 8 ≤ length bs → chunk ≡ take 8 bs → n ≡ cast_signed w64 (from_be_bytes w64 chunk) → FitsSigned w64 (cast_signed w64 (cast_unsigned w64 n)) × (rest : List ℕ) × (bs ≡ spelled_number (cast_signed w64 (cast_unsigned w64 n)) ++ rest)
number_found bs chunk n small enough prefix is =
    let bytes : (i : ℕ) → get_or chunk i 0 < 256 = subst (λ xs. (i : ℕ) → get_or xs i 0 < 256) (sym prefix) (prefix_small bs 8 small) in
    let fits : FitsSigned w64 n = subst (FitsSigned w64) (sym is) (sfits_to_z (Fits-of_lt (from_be_small chunk bytes))) in
    let same : cast_signed w64 (cast_unsigned w64 n) ≡ n = to_z-of_z w64 n fits in
    let bits : cast_unsigned w64 n ≡ from_be_bytes w64 chunk = ap (cast_unsigned w64) is ∙ of_z-to_z w64 (from_be_bytes w64 chunk) (from_be_small chunk bytes) in
    let long : length chunk ≡ 8 = ap length prefix ∙ length-take-le 8 bs enough in
    let spelled : spelled_number n ≡ chunk = be_bytes_8 chunk (cast_unsigned w64 n) long bytes bits in
    rw same (fits, drop 8 bs, sym (ap (λ xs. xs ++ drop 8 bs) (spelled ∙ prefix) ∙ take-append-drop 8 bs))

pub text_found : (bs chunk rest t : List ℕ) (n : ℕ) → ((i : ℕ) → get_or bs i 0 < 256) → 4 ≤ length bs → chunk ≡ take 4 bs → rest ≡ drop 4 bs → n ≡ from_be_bytes w32 chunk → n ≤ 65536 → n ≤ length rest → t ≡ take n rest → IsUtf8 t → IsText t × (after : List ℕ) × (bs ≡ spelled_text t ++ after)
text_found bs chunk rest t n small enough prefix back is few within text utf8 =
    let bytes : (i : ℕ) → get_or chunk i 0 < 256 = subst (λ xs. (i : ℕ) → get_or xs i 0 < 256) (sym prefix) (prefix_small bs 4 small) in
    let long : length chunk ≡ 4 = ap length prefix ∙ length-take-le 4 bs enough in
    let count : length t ≡ n = ap length text ∙ length-take-le n rest within in
    let spelled : to_be_bytes w32 (length t) ≡ chunk = be_bytes_4 chunk (length t) long bytes (count ∙ is) in
    let whole : t ++ drop n rest ≡ rest = ap (λ xs. xs ++ drop n rest) text ∙ take-append-drop n rest in
    let head : to_be_bytes w32 (length t) ++ rest ≡ bs = ap (λ xs. xs ++ rest) (spelled ∙ prefix) ∙ ap (λ xs. take 4 bs ++ xs) back ∙ take-append-drop 4 bs in
    ((utf8, omega arith), drop n rest, sym (append_assoc (to_be_bytes w32 (length t)) t (drop n rest) ∙ ap (λ xs. to_be_bytes w32 (length t) ++ xs) whole ∙ head))

-- lists that go on after prefixes of one length
pub prefixes_same : {X : Type 0} (xs ys r s : List X) → length xs ≡ length ys → xs ++ r ≡ ys ++ s → (xs ≡ ys) × (r ≡ s)
prefixes_same xs ys r s long same = (
  sym (take_at xs r (length ys) long) ∙ ap (take (length ys)) same ∙ take_at ys s (length ys) refl,
  sym (drop_at xs r (length ys) long) ∙ ap (drop (length ys)) same ∙ drop_at ys s (length ys) refl,
)

number_same : (m n : ℤ) (r s : List ℕ) → FitsSigned w64 m → FitsSigned w64 n → spelled_number m ++ r ≡ spelled_number n ++ s → (m ≡ n) × (r ≡ s)
number_same m n r s fits fits' same =
    let parts : (spelled_number m ≡ spelled_number n) × (r ≡ s) = prefixes_same (spelled_number m) (spelled_number n) r s refl same in
    let one : cast_unsigned w64 m ≡ cast_unsigned w64 n =
    sym (from_be_bytes-to_be_bytes_8 (cast_unsigned w64 m) (Fits-lt-pow (Fits-of_z fits))) ∙ ap (from_be_bytes w64) parts.0 ∙ from_be_bytes-to_be_bytes_8 (cast_unsigned w64 n) (Fits-lt-pow (Fits-of_z fits')) in
    (sym (to_z-of_z w64 m fits) ∙ ap (cast_signed w64) one ∙ to_z-of_z w64 n fits', parts.1)

text_same : (t u r s : List ℕ) → length t ≤ 65536 → length u ≤ 65536 → spelled_text t ++ r ≡ spelled_text u ++ s → (t ≡ u) × (r ≡ s)
text_same t u r s few few' same =
    let whole : to_be_bytes w32 (length t) ++ (t ++ r) ≡ to_be_bytes w32 (length u) ++ (u ++ s) = sym (append_assoc (to_be_bytes w32 (length t)) t r) ∙ same ∙ append_assoc (to_be_bytes w32 (length u)) u s in
    let parts : (to_be_bytes w32 (length t) ≡ to_be_bytes w32 (length u)) × (t ++ r ≡ u ++ s) = prefixes_same (to_be_bytes w32 (length t)) (to_be_bytes w32 (length u)) (t ++ r) (u ++ s) refl whole in
    let long : length t ≡ length u =
    sym (from_be_bytes-to_be_bytes_4 (length t) (omega arith)) ∙ ap (from_be_bytes w32) parts.0 ∙ from_be_bytes-to_be_bytes_4 (length u) (omega arith) in
    prefixes_same t u r s long parts.1

bad_same : (b c : Bad) → bad_code b ≡ bad_code c → b ≡ c
bad_same bad.Div0 bad.Div0 same = refl
bad_same bad.Value bad.Value same = refl
bad_same bad.Ref bad.Ref same = refl
bad_same bad.Num bad.Num same = refl
bad_same bad.Len bad.Len same = refl
bad_same b c same = cc

-- no spelling begins another
pub one_spelling : OneSpelling
one_spelling value.Empty value.Empty r s is is' same = (refl, cc)
one_spelling (value.Number m) (value.Number n) r s is is' same = let parts = number_same m n r s is is' (let rest : spelled_number m ++ r ≡ spelled_number n ++ s = cc in rest) in (ap value.Number parts.0, parts.1)
one_spelling (value.Text t) (value.Text u) r s is is' same = let parts = text_same t u r s is.1 is'.1 (let rest : spelled_text t ++ r ≡ spelled_text u ++ s = cc in rest) in (ap value.Text parts.0, parts.1)
one_spelling (value.Bad b) (value.Bad c) r s is is' same = (ap value.Bad (bad_same b c cc), cc)
one_spelling v w r s is is' same = let no : ⊥ = cc in absurd no

-- The bytes of a front that can stand in a name are counted: as many as the text has where all of it can.
use Rattle.std.proofs.Common.{◌≡◌, ℕ, zero, suc, ◌+◌, ◌<◌, ◌≤◌, Bool, cond, true, false, ◌&&◌, nat_le, eqb, slice_index, List, [], ◌∷◌, length, refl, sym, ap, ap₂, ◌∙◌, arith, inl, inr}
use Rattle.std.specs.List.{count_by, list_all}
use Rattle.std.proofs.lemmas.Bool.{cases_Bool, ne_eqb, le-leb}
use Rattle.std.proofs.lemmas.Bool.Decides.{nat_tests}
use Rattle.std.proofs.lemmas.List.Sums.{count_by-le-length, sum_by-cons}
use Rattle.carte_name.specs.Names.{is_name_byte, is_lower, is_rule_name}
use Rattle.carte_name.specs.Fronts.{padded, front_of}

one_more : (p : ℕ → Bool) (x : ℕ) (t : List ℕ) → count_by p (x ∷ t) ≡ cond (p x) 1 0 + count_by p t
one_more p x t = sum_by-cons (λ y. cond (p y) 1 0) x t

count_padded : (n : ℕ) (t : List ℕ) → length t ≤ n → count_by is_name_byte (padded n t) ≡ count_by is_name_byte t
count_padded zero [] few = refl
count_padded zero (x ∷ t) few = absurd (omega arith)
count_padded (suc n) [] few = one_more is_name_byte 0 (padded n []) ∙ ap (λ c. 0 + c) (count_padded n [] (omega arith))
count_padded (suc n) (x ∷ t) few = one_more is_name_byte x (padded n t) ∙ ap (λ c. cond (is_name_byte x) 1 0 + c) (count_padded n t (omega arith)) ∙ sym (one_more is_name_byte x t)

one_less : (a b : ℕ) → eqb (suc a) (suc b) ≡ eqb a b
one_less a b = grind (arith, nat_tests)

all_by_count : (p : ℕ → Bool) (t : List ℕ) → eqb (count_by p t) (length t) ≡ list_all p t
all_by_count p [] = refl
all_by_count p (x ∷ t) = elim (cases_Bool (p x)) [
  | inl passes ↦ (let more : count_by p (x ∷ t) ≡ suc (count_by p t) = (let next : 1 + count_by p t ≡ suc (count_by p t) = omega arith in one_more p x t ∙ ap (λ b. cond b 1 0 + count_by p t) passes ∙ next) in ap (λ n. eqb n (suc (length t))) more ∙ one_less (count_by p t) (length t) ∙ all_by_count p t ∙ sym (ap (λ b. b && list_all p t) passes))
  | inr fails ↦ (let same : count_by p (x ∷ t) ≡ count_by p t = (let next : 0 + count_by p t ≡ count_by p t = omega arith in one_more p x t ∙ ap (λ b. cond b 1 0 + count_by p t) fails ∙ next) in ne_eqb (count_by p (x ∷ t)) (suc (length t)) (λ e. omega (arith, count_by-le-length p t)) ∙ sym (ap (λ b. b && list_all p t) fails))
]

pub rule_in_front : (t : List ℕ) → length t ≤ 16 → (is_lower (slice_index t 0) && eqb (count_by is_name_byte (front_of t)) (length t)) ≡ is_rule_name t
unfolding front_of
rule_in_front [] few = refl
rule_in_front (x ∷ t) few =
    let all : eqb (count_by is_name_byte (padded 16 (x ∷ t))) (length (x ∷ t)) ≡ list_all is_name_byte (x ∷ t) = ap (λ c. eqb c (length (x ∷ t))) (count_padded 16 (x ∷ t) few) ∙ all_by_count is_name_byte (x ∷ t) in
    let short : nat_le (length (x ∷ t)) 64 ≡ true = le-leb (length (x ∷ t)) 64 (omega arith) in
    let some : nat_le 1 (length (x ∷ t)) ≡ true = le-leb 1 (length (x ∷ t)) (omega arith) in
    ap (λ b. is_lower x && b) all ∙ sym (ap₂ (λ a b. ((a && b) && is_lower x) && list_all is_name_byte (x ∷ t)) some short)

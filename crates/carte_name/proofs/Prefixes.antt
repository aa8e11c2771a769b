-- Longest prefixes of names.
use Rattle.std.proofs.Common.{◌≡◌, ℕ, zero, suc, ◌+◌, ◌<◌, ◌≤◌, max, Bool, true, false, ◌&&◌, ◌||◌, nat_le, List, [], ◌∷◌, ◌++◌, length, take, drop, slice_index, refl, sym, ◌∙◌, subst, inl, inr, arith, append_assoc, append-nil, ◌⊎◌, length-append, length-take-le, take-append-drop, take-take}
use Rattle.std.specs.List.{list_all}
use Rattle.std.proofs.lemmas.Bool.{both_ways, cases_lt, and_left, and_right, and_from, and_parts, and_cases, or_left, or_right, or_cases, le-leb, lt-leb, leb-true}
use Rattle.std.proofs.lemmas.List.Folds.{list_all-append, list_all_more}
use Rattle.carte_name.specs.Names.{is_name_byte, is_digit, is_lower, is_row, is_rule_name}
use Rattle.carte_name.specs.Prefixes.{Begins, IsLongestPrefix, IsRun}

-- the prefix with one byte more suffices: whatever begins with a longer one begins with it
pub longest_from_next : (passes : List ℕ → Bool) (t : List ℕ) (place : ℕ) → (place < length t → (rest : List ℕ) → passes (take (place + 1) t ++ rest) ≡ false) → (n : ℕ) → place < n → n ≤ length t → ¬ (Begins passes (take n t))
longest_from_next passes t place next n above within (rest, h) =
    let short : take (place + 1) (take n t) ≡ take (place + 1) t = take-take (place + 1) n t (omega arith) in
    let prefix : take (place + 1) t ++ (drop (place + 1) (take n t) ++ rest) ≡ take n t ++ rest =
    rw (← short, ← append_assoc (take (place + 1) (take n t)) (drop (place + 1) (take n t)) rest, take-append-drop (place + 1) (take n t)) refl in
    let no : passes (take n t ++ rest) ≡ false = subst (λ xs. passes xs ≡ false) prefix (next (omega arith) (drop (place + 1) (take n t) ++ rest)) in
    both_ways (passes (take n t ++ rest)) no h

-- a run that ends before the text does: with one byte more it is too long, or not all pass
run_next : (p : ℕ → Bool) (most : ℕ) (t : List ℕ) (n : ℕ) → IsRun p most t n → n < length t → (rest : List ℕ) → (nat_le (length (take (n + 1) t ++ rest)) most ≡ false) ⊎ (list_all p (take (n + 1) t ++ rest) ≡ false)
run_next p most t n run more rest = elim (cases_lt n most) [
  | inl fewer ↦ inr (list_all-append p (take (n + 1) t) rest ∙ and_left _ _ (list_all_more p t n 0 more ∙ and_right _ _ (run.ends more fewer)))
  | inr full ↦ inl (lt-leb (length (take (n + 1) t ++ rest)) most (omega (arith, length-append (take (n + 1) t) rest, length-take-le (n + 1) t (omega arith))))
]

-- names of rule files

rule_next : (t : List ℕ) (n : ℕ) → IsRun is_name_byte 64 t n → n < length t → (rest : List ℕ) → is_rule_name (take (n + 1) t ++ rest) ≡ false
rule_next t n run more rest = elim (run_next is_name_byte 64 t n run more rest) [
  | inl long ↦ and_left _ _ (and_left _ _ (and_right _ _ long))
  | inr other ↦ and_right _ _ other
]

pub rule_longest : (t : List ℕ) (n : ℕ) → IsRun is_name_byte 64 t n → is_lower (slice_index t 0) ≡ true → IsLongestPrefix is_rule_name t n
rule_longest [] n run lower = cc
rule_longest (x ∷ xs) zero run lower = absurd (both_ways (is_name_byte x) (run.ends (omega arith) (omega arith)) (or_left _ _ (or_left _ _ (or_left _ _ (or_left _ _ lower)))))
rule_longest (x ∷ xs) (suc m) run lower = record {
  within = run.within;
  begins = ([], subst (λ u. is_rule_name u ≡ true) (sym (append-nil (take (suc m) (x ∷ xs)))) (and_from _ _ (and_from _ _ (and_from _ _ (le-leb 1 (length (take (suc m) (x ∷ xs))) (omega arith)) (le-leb (length (take (suc m) (x ∷ xs))) 64 (omega (arith, length-take-le (suc m) (x ∷ xs) run.within, run.few)))) lower) run.all));
  longest = longest_from_next is_rule_name (x ∷ xs) (suc m) (rule_next (x ∷ xs) (suc m) run);
}

pub rule_none : (t : List ℕ) → is_lower (slice_index t 0) ≡ false → IsLongestPrefix is_rule_name t 0
rule_none t other = record {
  within = omega arith;
  begins = (97 ∷ [], refl);
  longest = longest_from_next is_rule_name t 0 (next t other);
}
  where
    next : (u : List ℕ) → is_lower (slice_index u 0) ≡ false → 0 < length u → (rest : List ℕ) → is_rule_name (take 1 u ++ rest) ≡ false
    next [] none more rest = absurd (omega arith)
    next (x ∷ xs) none more rest = and_left _ _ (and_right _ _ none)

-- rows of cells

row_next : (t : List ℕ) (n : ℕ) → IsRun is_digit 4 t n → n < length t → (rest : List ℕ) → is_row (take (n + 1) t ++ rest) ≡ false
row_next t n run more rest = elim (run_next is_digit 4 t n run more rest) [
  | inl long ↦ and_left _ _ (and_left _ _ (and_right _ _ long))
  | inr other ↦ and_left _ _ (and_right _ _ other)
]

pub row_longest : (t : List ℕ) (n : ℕ) → IsRun is_digit 4 t n → (nat_le 49 (slice_index t 0) && nat_le (slice_index t 0) 57) ≡ true → IsLongestPrefix is_row t n
row_longest [] n run digit = cc
row_longest (x ∷ xs) zero run digit =
    let low : 49 ≤ x = leb-true 49 x (and_parts _ _ digit).0 in
    absurd (both_ways (is_digit x) (run.ends (omega arith) (omega arith)) (and_from _ _ (le-leb 48 x (omega arith)) (and_parts (nat_le 49 x) (nat_le x 57) digit).1))
row_longest (x ∷ xs) (suc m) run digit = record {
  within = run.within;
  begins = ([], subst (λ u. is_row u ≡ true) (sym (append-nil (take (suc m) (x ∷ xs)))) (and_from _ _ (and_from _ _ (and_from _ _ (le-leb 1 (length (take (suc m) (x ∷ xs))) (omega arith)) (le-leb (length (take (suc m) (x ∷ xs))) 4 (omega (arith, length-take-le (suc m) (x ∷ xs) run.within, run.few)))) run.all) (and_parts (nat_le 49 x) (nat_le x 57) digit).0));
  longest = longest_from_next is_row (x ∷ xs) (suc m) (row_next (x ∷ xs) (suc m) run);
}

pub row_none : (t : List ℕ) → (nat_le 49 (slice_index t 0) && nat_le (slice_index t 0) 57) ≡ false → IsLongestPrefix is_row t 0
row_none t other = record {
  within = omega arith;
  begins = (49 ∷ [], refl);
  longest = longest_from_next is_row t 0 (next t other);
}
  where
    next : (u : List ℕ) → (nat_le 49 (slice_index u 0) && nat_le (slice_index u 0) 57) ≡ false → 0 < length u → (rest : List ℕ) → is_row (take 1 u ++ rest) ≡ false
    next [] none more rest = absurd (omega arith)
    next (x ∷ xs) none more rest = elim (and_cases (nat_le 49 x) (nat_le x 57) none) [
      | inl low ↦ and_right _ _ low
      | inr high ↦ and_left _ _ (and_right _ _ (and_left _ _ (and_right _ _ high)))
    ]

-- texts that pass one of two tests: the longer of the two prefixes
pub longest_of_two : (p q : List ℕ → Bool) (t : List ℕ) (m n : ℕ) → IsLongestPrefix p t m → IsLongestPrefix q t n → IsLongestPrefix (λ x. p x || q x) t (max m n)
longest_of_two p q t m n one two = elim (cases_lt m n) [
  | inl less ↦ subst (IsLongestPrefix (λ x. p x || q x) t) (sym (max_right m n less)) (record {
    within = two.within;
    begins = (two.begins.0, or_right _ _ two.begins.1);
    longest = λ k above within begun. either k begun.0 begun.1 (one.longest k (omega arith) within) (two.longest k above within);
  })
  | inr most ↦ subst (IsLongestPrefix (λ x. p x || q x) t) (sym (max_left m n most)) (record {
    within = one.within;
    begins = (one.begins.0, or_left _ _ one.begins.1);
    longest = λ k above within begun. either k begun.0 begun.1 (one.longest k above within) (two.longest k (omega arith) within);
  })
]
  where
    max_right : (a b : ℕ) → a < b → max a b ≡ b
    max_right a b less = omega arith

    max_left : (a b : ℕ) → b ≤ a → max a b ≡ a
    max_left a b most = omega arith

    either : (k : ℕ) (rest : List ℕ) → (p (take k t ++ rest) || q (take k t ++ rest)) ≡ true → ¬ (Begins p (take k t)) → ¬ (Begins q (take k t)) → ⊥
    either k rest is none other = elim (or_cases (p (take k t ++ rest)) (q (take k t ++ rest)) is) [
      | inl first ↦ none (rest, first)
      | inr second ↦ other (rest, second)
    ]

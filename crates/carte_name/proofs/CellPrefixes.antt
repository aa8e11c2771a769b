-- Longest prefixes of names of cells.
use Rattle.std.proofs.Common.{◌≡◌, ℕ, suc, ◌+◌, ◌<◌, Bool, true, false, ◌&&◌, nat_lt, List, [], ◌∷◌, ◌++◌, length, take, drop, slice_index, refl, ◌∙◌, subst, inl, inr, arith}
use Rattle.std.proofs.lemmas.Bool.{cases_Bool, and_left, false_from_ne_true}
use Rattle.carte_name.specs.Names.{is_upper, is_letter, is_row, is_cell_name, is_cell_text}
use Rattle.carte_name.specs.Prefixes.{IsLongestPrefix, letters_of}
use Rattle.carte_name.proofs.Prefixes.{longest_from_next}
use Rattle.carte_name.proofs.Raised.{upper_raised, row_raised, letter_raised, row_first, no_upper}

-- texts that pass are one or two letters and then a row
record ByLetters (letter : ℕ → Bool) (passes : List ℕ → Bool) : Type 0 where
  pub end : letter 0 ≡ false
  pub some : passes (65 ∷ 49 ∷ []) ≡ true
  pub row : (x : List ℕ) → is_row x ≡ true → letter (slice_index x 0) ≡ false
  pub none : (a : ℕ) (x : List ℕ) → letter a ≡ false → passes (a ∷ x) ≡ false
  pub one : (a : ℕ) (x : List ℕ) → letter a ≡ true → letter (slice_index x 0) ≡ false → passes (a ∷ x) ≡ is_row x
  pub two : (a b : ℕ) (x : List ℕ) → letter a ≡ true → letter b ≡ true → passes (a ∷ b ∷ x) ≡ is_row x
  pub empty : passes [] ≡ false

module _ (letter : ℕ → Bool) (passes : List ℕ → Bool) (by : ByLetters letter passes) where
  by_letters : (t : List ℕ) → passes t ≡ (nat_lt 0 (letters_of letter t) && is_row (drop (letters_of letter t) t))
  by_letters [] = rw (by.empty, by.end) refl
  by_letters (a ∷ x) = elim (cases_Bool (letter a)) [
    | inr none ↦ rw (by.none a x none, none) refl
    | inl one ↦ elim (cases_Bool (letter (slice_index x 0))) [
      | inr other ↦ rw (by.one a x one other, one, other) refl
      | inl two ↦ second one x two
    ]
  ]
    where
      second : letter a ≡ true → (y : List ℕ) → letter (slice_index y 0) ≡ true → passes (a ∷ y) ≡ (nat_lt 0 (letters_of letter (a ∷ y)) && is_row (drop (letters_of letter (a ∷ y)) (a ∷ y)))
      second one [] two = cc (by.end)
      second one (b ∷ y) two = rw (by.two a b y one two, one, two) refl

  -- what begins a row, behind the letters
  longest_one : (a : ℕ) (x : List ℕ) (d : ℕ) → letter a ≡ true → letter (slice_index x 0) ≡ false → IsLongestPrefix is_row x d → IsLongestPrefix passes (a ∷ x) (suc d)
  longest_one a x d one other prefix = record {
    within = omega (arith, prefix.within);
    begins = (prefix.begins.0, by.one a (take d x ++ prefix.begins.0) one (by.row (take d x ++ prefix.begins.0) prefix.begins.1) ∙ prefix.begins.1);
    longest = longest_from_next passes (a ∷ x) (suc d) next;
  }
    where
      first : (y : List ℕ) → d < length y → letter (slice_index y 0) ≡ false → (rest : List ℕ) → letter (slice_index (take (suc d) y ++ rest) 0) ≡ false
      first [] more none rest = absurd (omega arith)
      first (b ∷ y) more none rest = none

      next : suc d < length (a ∷ x) → (rest : List ℕ) → passes (take (suc d + 1) (a ∷ x) ++ rest) ≡ false
      next more rest =
          let place : suc d + 1 ≡ suc (suc d) = omega arith in
          let no : is_row (take (suc d) x ++ rest) ≡ false = false_from_ne_true _ (λ h. prefix.longest (suc d) (omega arith) (omega arith) (rest, h)) in
          rw place (by.one a (take (suc d) x ++ rest) one (first x (omega arith) other rest) ∙ no)

  longest_two : (a b : ℕ) (x : List ℕ) (d : ℕ) → letter a ≡ true → letter b ≡ true → IsLongestPrefix is_row x d → IsLongestPrefix passes (a ∷ b ∷ x) (suc (suc d))
  longest_two a b x d one two prefix = record {
    within = omega (arith, prefix.within);
    begins = (prefix.begins.0, by.two a b (take d x ++ prefix.begins.0) one two ∙ prefix.begins.1);
    longest = longest_from_next passes (a ∷ b ∷ x) (suc (suc d)) next;
  }
    where
      next : suc (suc d) < length (a ∷ b ∷ x) → (rest : List ℕ) → passes (take (suc (suc d) + 1) (a ∷ b ∷ x) ++ rest) ≡ false
      next more rest =
          let place : suc (suc d) + 1 ≡ suc (suc (suc d)) = omega arith in
          let no : is_row (take (suc d) x ++ rest) ≡ false = false_from_ne_true _ (λ h. prefix.longest (suc d) (omega arith) (omega arith) (rest, h)) in
          rw place (by.two a b (take (suc d) x ++ rest) one two ∙ no)

  letters_none : (a : ℕ) (x : List ℕ) → letter a ≡ false → letters_of letter (a ∷ x) ≡ 0
  letters_none a x none = rw none refl

  letters_one : (a : ℕ) (x : List ℕ) → letter a ≡ true → letter (slice_index x 0) ≡ false → letters_of letter (a ∷ x) ≡ 1
  letters_one a x one other = rw (one, other) refl

  letters_two : (a b : ℕ) (x : List ℕ) → letter a ≡ true → letter b ≡ true → letters_of letter (a ∷ b ∷ x) ≡ 2
  letters_two a b x one two = rw (one, two) refl

  longest_some : (t : List ℕ) (l d : ℕ) → l ≡ letters_of letter t → 0 < l → IsLongestPrefix is_row (drop l t) d → IsLongestPrefix passes t (l + d)
  longest_some [] l d is some prefix = let none : letters_of letter [] ≡ 0 = rw (by.end) refl in absurd (omega arith)
  longest_some (a ∷ x) l d is some prefix = elim (cases_Bool (letter a)) [
    | inr none ↦ absurd (omega (arith, is, letters_none a x none))
    | inl one ↦ elim (cases_Bool (letter (slice_index x 0))) [
      | inr other ↦
          let number : l ≡ 1 = is ∙ letters_one a x one other in
          let rest : IsLongestPrefix is_row x d = subst (λ n. IsLongestPrefix is_row (drop n (a ∷ x)) d) number prefix in
          let place : suc d ≡ l + d = omega arith in
          subst (λ n. IsLongestPrefix passes (a ∷ x) n) place (longest_one a x d one other rest)
      | inl two ↦ both one x two is prefix
    ]
  ]
    where
      both : letter a ≡ true → (y : List ℕ) → letter (slice_index y 0) ≡ true → l ≡ letters_of letter (a ∷ y) → IsLongestPrefix is_row (drop l (a ∷ y)) d → IsLongestPrefix passes (a ∷ y) (l + d)
      both one [] two is prefix = cc (by.end)
      both one (b ∷ y) two is prefix =
          let number : l ≡ 2 = is ∙ letters_two a b y one two in
          let rest : IsLongestPrefix is_row y d = subst (λ n. IsLongestPrefix is_row (drop n (a ∷ b ∷ y)) d) number prefix in
          let place : suc (suc d) ≡ l + d = omega arith in
          subst (λ n. IsLongestPrefix passes (a ∷ b ∷ y) n) place (longest_two a b y d one two rest)

  longest_none : (t : List ℕ) → letters_of letter t ≡ 0 → IsLongestPrefix passes t 0
  longest_none t none = record {
    within = omega arith;
    begins = (65 ∷ 49 ∷ [], by.some);
    longest = longest_from_next passes t 0 (next t none);
  }
    where
      next : (u : List ℕ) → letters_of letter u ≡ 0 → 0 < length u → (rest : List ℕ) → passes (take 1 u ++ rest) ≡ false
      next [] none more rest = absurd (omega arith)
      next (a ∷ x) none more rest = elim (cases_Bool (letter a)) [
        | inr other ↦ by.none a rest other
        | inl one ↦ elim (cases_Bool (letter (slice_index x 0))) [
          | inr other ↦ absurd (omega (arith, none, letters_one a x one other))
          | inl two ↦ both one x two none
        ]
      ]
        where
          both : letter a ≡ true → (y : List ℕ) → letter (slice_index y 0) ≡ true → letters_of letter (a ∷ y) ≡ 0 → passes (a ∷ rest) ≡ false
          both one [] two none = cc (by.end)
          both one (b ∷ y) two none = absurd (omega (arith, none, letters_two a b y one two))

-- the two kinds of texts of cells

by_any : ByLetters is_letter is_cell_text
by_any = record {
  end = refl;
  some = refl;
  row = row_first;
  none = λ a x other. and_left _ _ (upper_raised a ∙ other);
  one = λ a x letter other. rw (upper_raised a, letter, letter_raised x, other) (row_raised x);
  two = λ a b x one two. rw (upper_raised a, one, upper_raised b, two) (row_raised x);
  empty = refl;
}

by_upper : ByLetters is_upper is_cell_name
by_upper = record {
  end = refl;
  some = refl;
  row = λ x row. no_upper (slice_index x 0) (row_first x row);
  none = λ a x other. and_left _ _ other;
  one = λ a x letter other. rw (letter, other) refl;
  two = λ a b x one two. rw (one, two) refl;
  empty = refl;
}

pub cell_by_letters : (t : List ℕ) → is_cell_text t ≡ (nat_lt 0 (letters_of is_letter t) && is_row (drop (letters_of is_letter t) t))
cell_by_letters t = by_letters is_letter is_cell_text by_any t

pub cell_longest : (t : List ℕ) (l d : ℕ) → l ≡ letters_of is_letter t → 0 < l → IsLongestPrefix is_row (drop l t) d → IsLongestPrefix is_cell_text t (l + d)
cell_longest t l d is some prefix = longest_some is_letter is_cell_text by_any t l d is some prefix

pub cell_longest_none : (t : List ℕ) → letters_of is_letter t ≡ 0 → IsLongestPrefix is_cell_text t 0
cell_longest_none t none = longest_none is_letter is_cell_text by_any t none

pub upper_by_letters : (t : List ℕ) → is_cell_name t ≡ (nat_lt 0 (letters_of is_upper t) && is_row (drop (letters_of is_upper t) t))
upper_by_letters t = by_letters is_upper is_cell_name by_upper t

pub upper_longest : (t : List ℕ) (l d : ℕ) → l ≡ letters_of is_upper t → 0 < l → IsLongestPrefix is_row (drop l t) d → IsLongestPrefix is_cell_name t (l + d)
upper_longest t l d is some prefix = longest_some is_upper is_cell_name by_upper t l d is some prefix

pub upper_longest_none : (t : List ℕ) → letters_of is_upper t ≡ 0 → IsLongestPrefix is_cell_name t 0
upper_longest_none t none = longest_none is_upper is_cell_name by_upper t none

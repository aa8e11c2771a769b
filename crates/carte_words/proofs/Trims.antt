-- Texts cut at blanks at their end.
use Rattle.std.proofs.Common.{ℕ, ◌≡◌, ◌+◌, ◌-◌, true, false, List, [], ◌∷◌, ◌++◌, length, take, refl, ap, sym, ◌∙◌, arith}
use Rattle.std.proofs.lemmas.List.{take_more, take_all}
use Rattle.carte_words.specs.Cuts.{is_blank, last_of, kept, trim_end}

trim_blank : (xs : List ℕ) (b : ℕ) → is_blank b ≡ true → trim_end (xs ++ b ∷ []) ≡ trim_end xs
trim_blank [] b e = rw e refl
trim_blank (x ∷ xs) b e = ap (kept x) (trim_blank xs b e)

trim_other : (xs : List ℕ) (b : ℕ) → is_blank b ≡ false → trim_end (xs ++ b ∷ []) ≡ xs ++ b ∷ []
trim_other [] b e = rw e refl
trim_other (x ∷ xs) b e = ap (kept x) (trim_other xs b e) ∙ go xs
  where
    go : (xs : List ℕ) → kept x (xs ++ b ∷ []) ≡ x ∷ (xs ++ b ∷ [])
    go [] = refl
    go (y ∷ ys) = refl

-- a text is what stands before its last byte, and that
split_last : (x : ℕ) (xs : List ℕ) → take (length (x ∷ xs) - 1) (x ∷ xs) ++ last_of (x ∷ xs) ∷ [] ≡ x ∷ xs
split_last x xs =
    sym (take_more (x ∷ xs) (length (x ∷ xs) - 1) 0 (omega arith)) ∙ take_all (length (x ∷ xs) - 1 + 1) (x ∷ xs) (omega arith)

pub trim_more : (t : List ℕ) → is_blank (last_of t) ≡ true → trim_end (take (length t - 1) t) ≡ trim_end t
trim_more [] e = refl
trim_more (x ∷ xs) e = sym (trim_blank (take (length (x ∷ xs) - 1) (x ∷ xs)) (last_of (x ∷ xs)) e) ∙ ap trim_end (split_last x xs)

pub trim_done : (t : List ℕ) → is_blank (last_of t) ≡ false → trim_end t ≡ t
trim_done [] e = refl
trim_done (x ∷ xs) e =
    let whole = split_last x xs in
    ap trim_end (sym whole) ∙ trim_other (take (length (x ∷ xs) - 1) (x ∷ xs)) (last_of (x ∷ xs)) e ∙ whole

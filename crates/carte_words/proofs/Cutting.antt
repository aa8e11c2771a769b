-- Texts cut at blanks in front.
use Rattle.std.proofs.Common.{ℕ, ◌≡◌, ◌∙◌, if◌then◌else◌, ◌<◌, ◌≤◌, Bool, true, false, List, [], ◌∷◌, ◌++◌, length, take, drop, get_or, refl, ap, sym, arith}
use Rattle.std.proofs.lemmas.List.{length-append}
use Rattle.std.proofs.Math.Seq.{take-append_seam, drop-append_seam}
use Rattle.std.specs.Str.{IsCharBoundary, IsUtf8}
use Rattle.std.proofs.lemmas.Str.{IsCharBoundary-after_ascii}
use Rattle.carte_words.specs.Cuts.{is_blank, begins_blank, skip, word_of, behind, NextWord}

-- a text is its first word and what follows it
pub word_split : (t : List ℕ) → word_of t ++ behind t ≡ t
word_split [] = refl
word_split (b ∷ bs) = go (is_blank b) (word_split bs)
  where
    go : (t : Bool) → word_of bs ++ behind bs ≡ bs → (if t then [] else b ∷ word_of bs) ++ (if t then b ∷ bs else behind bs) ≡ b ∷ bs
    go true e = refl
    go false e = ap (λ r. b ∷ r) e

pub word_taken : (t : List ℕ) → take (length (word_of t)) t ≡ word_of t
word_taken t = ap (take (length (word_of t))) (sym (word_split t)) ∙ take-append_seam (word_of t) (behind t)

pub word_dropped : (t : List ℕ) → drop (length (word_of t)) t ≡ behind t
word_dropped t = ap (drop (length (word_of t))) (sym (word_split t)) ∙ drop-append_seam (word_of t) (behind t)

pub word_within : (t : List ℕ) → length (word_of t) ≤ length t
word_within t = omega (arith, length-append (word_of t) (behind t), ap length (word_split t))

-- at its end the text ends, or a blank stands
pub word_ends : (t : List ℕ) → length (word_of t) < length t → get_or t (length (word_of t)) 0 < 128
word_ends [] h = absurd (omega arith)
word_ends (b ∷ bs) h = go (is_blank b) refl h (word_ends bs)
  where
    go : (t : Bool) → is_blank b ≡ t → length (if t then [] else b ∷ word_of bs) < length (b ∷ bs)
        → (length (word_of bs) < length bs → get_or bs (length (word_of bs)) 0 < 128)
        → get_or (b ∷ bs) (length (if t then [] else b ∷ word_of bs)) 0 < 128
    go true e h rest = grind (arith, e)
    go false e h rest = rest (omega arith)

pub word_boundary : (t : List ℕ) (i : ℕ) → i ≡ length (word_of t) → IsCharBoundary t i
word_boundary t i e = rw e (word_within t, λ within high. absurd (omega (arith, word_ends t within)))

-- a blank is ASCII
blank_low : (b : ℕ) → is_blank b ≡ true → b < 128
blank_low b e = grind arith

-- behind a blank a text may be cut
pub blank_boundary : (t : List ℕ) → IsUtf8 t → begins_blank t ≡ true → IsCharBoundary t 1
blank_boundary [] u e = cc
blank_boundary (b ∷ bs) u e = IsCharBoundary-after_ascii (b ∷ bs) 0 u (omega arith) (blank_low b e)

-- without the blanks in front, a text begins with none, and is no longer
pub skip_shorter : (t : List ℕ) → length (skip t) ≤ length t
skip_shorter [] = omega arith
skip_shorter (b ∷ bs) = go (is_blank b) (skip_shorter bs)
  where
    go : (t : Bool) → length (skip bs) ≤ length bs → length (if t then skip bs else b ∷ bs) ≤ length (b ∷ bs)
    go true h = omega arith
    go false h = omega arith

pub skip_begins : (t : List ℕ) → begins_blank (skip t) ≡ false
skip_begins [] = refl
skip_begins (b ∷ bs) = go (is_blank b) refl (skip_begins bs)
  where
    go : (t : Bool) → is_blank b ≡ t → begins_blank (skip bs) ≡ false → begins_blank (if t then skip bs else b ∷ bs) ≡ false
    go true e h = h
    go false e h = e

behind_shorter : (s : List ℕ) → begins_blank s ≡ false → ¬ (length s ≡ 0) → length (behind s) < length s
behind_shorter [] e some = absurd (some refl)
behind_shorter (b ∷ bs) e some = rw e (omega (arith, length-append (word_of bs) (behind bs), ap length (word_split bs)))

pub next_is : (t s w r : List ℕ) (n : ℕ) → s ≡ skip t → n ≡ length (word_of s) → w ≡ take n s → r ≡ drop n s → ¬ (length s ≡ 0) → NextWord (skip t) w r
next_is t s w r n at len front back some =
    let word : w ≡ word_of s = front ∙ ap (λ k. take k s) len ∙ word_taken s in
    let rest : r ≡ behind s = back ∙ ap (λ k. drop k s) len ∙ word_dropped s in
    let begins : begins_blank s ≡ false = ap begins_blank at ∙ skip_begins t in
    let less : length (behind s) < length s = behind_shorter s begins some in
    record {
      word_is = word ∙ ap word_of at;
      rest_is = rest ∙ ap behind at;
      shorter = omega (arith, ap length rest, ap length at);
    }

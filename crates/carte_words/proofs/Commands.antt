-- The words of a text, and names read word by word.
use Rattle.std.proofs.Common.{ℕ, ◌≡◌, ◌∙◌, ◌<◌, if◌then◌else◌, Bool, true, false, IsTrue, List, [], ◌∷◌, ◌++◌, Option, Some, None, length, refl, ap, sym, arith, rules, append_assoc}
use Rattle.carte_name.specs.Kinds.{is_text_of, name_of}
use Rattle.carte_name.specs.declared.kind.Kind.{Kind}
use Rattle.carte_words.specs.Cuts.{is_blank, begins_blank, skip, word_of, behind, joined, grown, words_in, NextWord}
use Rattle.carte_words.specs.Lines.{names_of, in_front}
use Rattle.carte_words.proofs.Cutting.{skip_begins, skip_shorter}

abbrev pub all_before : List (List ℕ) → Option (List (List ℕ)) → Option (List (List ℕ))
all_before ns (Some ks) = Some (ns ++ ks)
all_before ns None = None

-- blanks in front make no word
words_skipped : (t : List ℕ) → words_in (skip t) ≡ words_in t
words_skipped [] = refl
words_skipped (b ∷ bs) = go (is_blank b) refl (words_skipped bs)
  where
    go : (t : Bool) → is_blank b ≡ t → words_in (skip bs) ≡ words_in bs → words_in (if t then skip bs else b ∷ bs) ≡ words_in (b ∷ bs)
    go true e rest = rest ∙ sym (rw e refl)
    go false e rest = refl

-- a text that begins with no blank is its first word, and then the words of what follows
first_word : (b : ℕ) (bs : List ℕ) → is_blank b ≡ false → words_in (b ∷ bs) ≡ word_of (b ∷ bs) ∷ words_in (behind (b ∷ bs))
first_word b [] e = rw e refl
first_word b (c ∷ cs) e = rw e (go (is_blank c) refl (first_word c cs))
  where
    go : (t : Bool) → is_blank c ≡ t → (is_blank c ≡ false → words_in (c ∷ cs) ≡ word_of (c ∷ cs) ∷ words_in (behind (c ∷ cs)))
        → joined b (c ∷ cs) (words_in (c ∷ cs)) ≡ (b ∷ word_of (c ∷ cs)) ∷ words_in (behind (c ∷ cs))
    go true e h = rw e (rw e refl)
    go false e h =
        let first : joined b (c ∷ cs) (words_in (c ∷ cs)) ≡ grown b (words_in (c ∷ cs)) = rw e refl in
        first ∙ ap (grown b) (h e)

words_of_cons : (s : List ℕ) → begins_blank s ≡ false → 0 < length s → words_in s ≡ word_of s ∷ words_in (behind s)
words_of_cons [] e some = absurd (omega arith)
words_of_cons (b ∷ bs) e some = first_word b bs e

-- the next word is the first of the words
pub words_next : (t word rest : List ℕ) → NextWord (skip t) word rest → words_in t ≡ word ∷ words_in rest
words_next t word rest n =
    let cut : words_in (skip t) ≡ word_of (skip t) ∷ words_in (behind (skip t)) = words_of_cons (skip t) (skip_begins t) (omega (arith, n.shorter)) in
    sym (words_skipped t) ∙ cut ∙ ap (λ w. w ∷ words_in (behind (skip t))) (sym n.word_is) ∙ ap (λ r. word ∷ words_in r) (sym n.rest_is)

pub words_none : (t : List ℕ) → skip t ≡ [] → words_in t ≡ []
words_none t e = sym (words_skipped t) ∙ ap words_in e

pub next_shorter : (t word rest : List ℕ) → NextWord (skip t) word rest → length rest < length t
next_shorter t word rest n = omega (arith, n.shorter, skip_shorter t)

-- ---- names

pub named_more : (ns : List (List ℕ)) (k : List ℕ) (o : Option (List (List ℕ))) → all_before (ns ++ k ∷ []) o ≡ all_before ns (in_front k o)
named_more ns k None = refl
named_more ns k (Some ks) = ap Some (append_assoc ns (k ∷ []) ks)

pub named_first : (kind : Kind) (w : List ℕ) (ws : List (List ℕ)) → IsTrue (is_text_of kind w) → names_of kind (w ∷ ws) ≡ in_front (name_of kind w) (names_of kind ws)
named_first kind w ws h = search (rules, h)

pub not_named : (kind : Kind) (w : List ℕ) (ws : List (List ℕ)) → ¬ (IsTrue (is_text_of kind w)) → names_of kind (w ∷ ws) ≡ None
not_named kind w ws h = go (is_text_of kind w) h
  where
    go : (t : Bool) → ¬ (IsTrue t) → (if t then in_front (name_of kind w) (names_of kind ws) else None) ≡ None
    go true h = absurd (search (rules, h))
    go false h = refl

-- no names are those of no words
pub no_names : (kind : Kind) (ws ns : List (List ℕ)) → names_of kind ws ≡ Some ns → length ns ≡ 0 → ws ≡ []
no_names kind [] ns e none = refl
no_names kind (w ∷ ws) ns e none = absurd (go (is_text_of kind w) (names_of kind ws) e)
  where
    go : (t : Bool) (o : Option (List (List ℕ))) → (if t then in_front (name_of kind w) o else None) ≡ Some ns → ⊥
    go true (Some ks) e = let same : name_of kind w ∷ ks ≡ ns = cc in omega (arith, ap length same)
    go true None e = cc
    go false o e = cc

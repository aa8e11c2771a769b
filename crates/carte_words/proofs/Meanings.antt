-- By which words a line is meant, and that it has one meaning at most.
use Rattle.std.proofs.Common.{ℕ, ◌≡◌, ◌∙◌, List, [], ◌∷◌, Some, codes, refl, ap, ap₂, sym, arith, slice_index}
use Rattle.carte_name.specs.declared.kind.Kind.{Kind}
use Rattle.carte_value.proofs.Readings.{one_reading}
use Rattle.carte_words.specs.declared.line.Line.{Line}
use Rattle.carte_words.specs.declared.line.Line.TheVariants.{Set, Build, Explain, Clean, Nothing}
use Rattle.carte_words.specs.Cuts.{skip, trim_end, without_return, words_in, word_of, behind, NextWord}
use Rattle.carte_words.specs.Lines.{AreNames, Follows, Says, OneMeaning}
use Rattle.carte_words.proofs.Commands.{words_next}

-- the first byte of the word that a line is meant by
abbrev initial : Line → ℕ
initial Nothing = 35
initial Clean = 99
initial (Build ks) = 98
initial (Explain ks) = 101
initial (Set k v) = 115

begins : (kind : Kind) (word rest : List ℕ) (l : Line) → Follows kind word rest l → slice_index word 0 ≡ initial l
begins kind word rest Nothing f = f
begins kind word rest Clean f = ap (λ (w : List ℕ). slice_index w 0) f.0
begins kind word rest (Build ks) f = ap (λ (w : List ℕ). slice_index w 0) f.0
begins kind word rest (Explain ks) f = ap (λ (w : List ℕ). slice_index w 0) f.0
begins kind word rest (Set k v) f = ap (λ (w : List ℕ). slice_index w 0) f.0

-- ---- where nothing is meant

pub no_clean : (kind : Kind) (rest word more : List ℕ) → NextWord (skip rest) word more → (l : Line) → ¬ (Follows kind (codes "clean") rest l)
no_clean kind rest word more n Clean f = let e : word ∷ words_in more ≡ [] = sym (words_next rest word more n) ∙ f.1 in cc
no_clean kind rest word more n l f = absurd (omega (arith, begins kind (codes "clean") rest l f))

pub no_other : (kind : Kind) (word rest : List ℕ) → ¬ (word ≡ codes "set") → ¬ (word ≡ codes "build") → ¬ (word ≡ codes "explain") → ¬ (word ≡ codes "clean")
    → ¬ (slice_index word 0 ≡ 35) → (l : Line) → ¬ (Follows kind word rest l)
no_other kind word rest s b e c n Nothing f = n f
no_other kind word rest s b e c n Clean f = c f.0
no_other kind word rest s b e c n (Build ks) f = b f.0
no_other kind word rest s b e c n (Explain ks) f = e f.0
no_other kind word rest s b e c n (Set k v) f = s f.0

-- ---- one meaning

one_list : (kind : Kind) (rest : List ℕ) (ks js : List (List ℕ)) → AreNames kind rest ks → AreNames kind rest js → ks ≡ js
one_list kind rest ks js f g = let e : Some ks ≡ Some js = sym f.1 ∙ g.1 in cc

one_follows : (kind : Kind) (word rest : List ℕ) (l m : Line) → Follows kind word rest l → Follows kind word rest m → initial l ≡ initial m → l ≡ m
one_follows kind word rest Nothing Nothing f g e = refl
one_follows kind word rest Clean Clean f g e = refl
one_follows kind word rest (Build ks) (Build js) f g e = ap Build (one_list kind rest ks js f.1 g.1)
one_follows kind word rest (Explain ks) (Explain js) f g e = ap Explain (one_list kind rest ks js f.1 g.1)
one_follows kind word rest (Set k v) (Set j w) f g e = ap₂ Set (f.1.1 ∙ sym g.1.1) (one_reading _ v w f.1.2 g.1.2)
one_follows kind word rest l m f g e = absurd (omega arith)

one_says : (kind : Kind) (t : List ℕ) (l m : Line) → Says kind t l → Says kind t m → l ≡ m
one_says kind [] l m f g = f ∙ sym g
one_says kind (b ∷ bs) l m f g =
    let word = word_of (b ∷ bs) in
    let rest = behind (b ∷ bs) in
    one_follows kind word rest l m f g (sym (begins kind word rest l f) ∙ begins kind word rest m g)

pub meant_once : OneMeaning
meant_once kind line l m f g = one_says kind (skip (trim_end (without_return line))) l m f.says g.says

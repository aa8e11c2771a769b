-- Laws of lines: one way to cut bytes, and the lines of a script as a function of its bytes.
use Rattle.std.proofs.Common.{◌≡◌, ◌≢◌, ◌⊎◌, ℕ, ◌+◌, ◌<◌, ◌≤◌, List, [], ◌∷◌, ◌++◌, length, cond, refl, sym, ◌∙◌, ap, subst, inl, inr, arith, append_assoc}
use Rattle.std.proofs.lemmas.List.{append-nil, length-append}
use Rattle.std.proofs.lemmas.Bool.{ne_eqb}
use Rattle.carte_session.specs.Lines.{AreAll, AreLines, IsCut, IsLine, IsNext, lines_of, put_first, spelled}

lines_of-other : (x : ℕ) (bytes : List ℕ) → x ≢ 10 → lines_of (x ∷ bytes) ≡ put_first x (lines_of bytes)
lines_of-other x bytes other = ap (λ b. cond b ([] ∷ lines_of bytes) (put_first x (lines_of bytes))) (ne_eqb x 10 other)

lines_of-line : (line more : List ℕ) → IsLine line → lines_of (line ++ 10 ∷ more) ≡ line ∷ lines_of more
lines_of-line [] more is = refl
lines_of-line (x ∷ line) more is = lines_of-other x (line ++ 10 ∷ more) is.0 ∙ ap (put_first x) (lines_of-line line more is.1)

lines_of-last : (last : List ℕ) → IsLine last → last ≢ [] → lines_of last ≡ last ∷ []
lines_of-last [] is some = absurd (some refl)
lines_of-last (x ∷ []) is some = lines_of-other x [] is.0
lines_of-last (x ∷ (y ∷ last)) is some =
    lines_of-other x (y ∷ last) is.0 ∙ ap (put_first x) (lines_of-last (y ∷ last) is.1 (λ e. absurd (cc)))

pub lines_of-front : (lines : List (List ℕ)) (more : List ℕ) → AreLines lines → lines_of (spelled lines ++ more) ≡ lines ++ lines_of more
lines_of-front [] more are = refl
lines_of-front (line ∷ lines) more are =
    ap lines_of (append_assoc line (10 ∷ spelled lines) more) ∙ lines_of-line line (spelled lines ++ more) are.0
    ∙ ap (λ ls. line ∷ ls) (lines_of-front lines more are.1)

pub lines_of-all : (bytes : List ℕ) (lines : List (List ℕ)) → AreAll bytes lines → lines ≡ lines_of bytes
lines_of-all bytes lines (inl cut) = sym (ap lines_of cut.whole ∙ lines_of-front lines [] cut.lined ∙ append-nil lines)
lines_of-all bytes lines (inr w) =
    let front = w.0 in let last = w.1 in
    w.2 ∙ sym (ap lines_of w.4.whole ∙ lines_of-front front last w.4.lined ∙ ap (λ ls. front ++ ls) (lines_of-last last w.4.open_rest w.3))

no_feed : (line more : List ℕ) → IsLine (line ++ 10 ∷ more) → ⊥
no_feed [] more is = is.0 refl
no_feed (x ∷ line) more is = no_feed line more is.1

line_same : (a b x y : List ℕ) → IsLine a → IsLine b → a ++ 10 ∷ x ≡ b ++ 10 ∷ y → (b ≡ a) × (y ≡ x)
line_same [] [] x y is_a is_b e = (refl, cc)
line_same [] (c ∷ b) x y is_a is_b e = let clash : c ≡ 10 = cc in absurd (is_b.0 clash)
line_same (c ∷ a) [] x y is_a is_b e = let clash : c ≡ 10 = cc in absurd (is_a.0 clash)
line_same (c ∷ a) (d ∷ b) x y is_a is_b e =
    let tail : a ++ 10 ∷ x ≡ b ++ 10 ∷ y = cc in
    let head : d ≡ c = cc in
    let rest = line_same a b x y is_a.1 is_b.1 tail in
    let same : b ≡ a = rest.0 in
    (cc, rest.1)

cut_same : (lines others : List (List ℕ)) (rest last : List ℕ) → AreLines lines → AreLines others → IsLine rest → IsLine last
    → spelled lines ++ rest ≡ spelled others ++ last → (others ≡ lines) × (last ≡ rest)
cut_same [] [] rest last a b r l e = (refl, sym e)
cut_same [] (line ∷ others) rest last a b r l e =
    absurd (no_feed line (spelled others ++ last) (subst IsLine (e ∙ append_assoc line (10 ∷ spelled others) last) r))
cut_same (line ∷ lines) [] rest last a b r l e =
    absurd (no_feed line (spelled lines ++ rest) (subst IsLine (sym e ∙ append_assoc line (10 ∷ spelled lines) rest) l))
cut_same (line ∷ lines) (other ∷ others) rest last a b r l e =
    let first = line_same line other (spelled lines ++ rest) (spelled others ++ last) a.0 b.0
    (sym (append_assoc line (10 ∷ spelled lines) rest) ∙ e ∙ append_assoc other (10 ∷ spelled others) last) in
    let next = cut_same lines others rest last a.1 b.1 r l (sym first.1) in
    let head : other ≡ line = first.0 in
    let tail : others ≡ lines = next.0 in
    (cc, next.1)

pub one_cut_is : (bytes rest last : List ℕ) (lines others : List (List ℕ)) → IsCut bytes lines rest → IsCut bytes others last → (others ≡ lines) × (last ≡ rest)
one_cut_is bytes rest last lines others a b =
    cut_same lines others rest last a.lined b.lined a.open_rest b.open_rest (sym a.whole ∙ b.whole)

next_by : (read left line : List ℕ) (lines : List (List ℕ)) (most : ℕ) → AreLines lines → IsLine line
    → ((rest : List ℕ) × (read ≡ spelled lines ++ (line ++ 10 ∷ rest)) × (length rest < most)) ⊎ ((read ≡ spelled lines ++ line) × (line ≢ []) × (left ≡ []))
    → (later : List (List ℕ)) × (lines_of (read ++ left) ≡ lines ++ line ∷ later)
next_by read left line lines most are is (inl w) = (
  lines_of (w.0 ++ left),
  ap (λ bytes. lines_of (bytes ++ left)) w.1 ∙ ap lines_of (append_assoc (spelled lines) (line ++ 10 ∷ w.0) left)
      ∙ lines_of-front lines ((line ++ 10 ∷ w.0) ++ left) are
      ∙ ap (λ bytes. lines ++ lines_of bytes) (append_assoc line (10 ∷ w.0) left) ∙ ap (λ ls. lines ++ ls) (lines_of-line line (w.0 ++ left) is),
)
next_by read left line lines most are is (inr w) = (
  [],
  ap (λ bytes. lines_of (bytes ++ left)) w.0 ∙ ap (λ bytes. lines_of ((spelled lines ++ line) ++ bytes)) w.2
      ∙ ap lines_of (append-nil (spelled lines ++ line)) ∙ lines_of-front lines line are ∙ ap (λ ls. lines ++ ls) (lines_of-last line is w.1),
)

pub next_is : (read left line : List ℕ) (lines : List (List ℕ)) (most : ℕ) → IsNext read lines line most (left ≡ [])
    → (later : List (List ℕ)) × (lines_of (read ++ left) ≡ lines ++ line ∷ later)
next_is read left line lines most next = next_by read left line lines most next.0 next.1 next.2

-- one byte more

line_more : (line : List ℕ) (x : ℕ) → IsLine line → x ≢ 10 → IsLine (line ++ x ∷ [])
line_more [] x is other = (other, tt)
line_more (y ∷ line) x is other = (is.0, line_more line x is.1 other)

are_more : (lines : List (List ℕ)) (line : List ℕ) → AreLines lines → IsLine line → AreLines (lines ++ line ∷ [])
are_more [] line are is = (is, tt)
are_more (l ∷ lines) line are is = (are.0, are_more lines line are.1 is)

spelled-more : (lines : List (List ℕ)) (line : List ℕ) → spelled (lines ++ line ∷ []) ≡ spelled lines ++ (line ++ 10 ∷ [])
spelled-more [] line = refl
spelled-more (l ∷ lines) line =
    ap (λ xs. l ++ 10 ∷ xs) (spelled-more lines line) ∙ sym (append_assoc l (10 ∷ spelled lines) (line ++ 10 ∷ []))

pub whole_more : (read rest more : List ℕ) (lines : List (List ℕ)) → read ≡ spelled lines ++ rest → read ++ more ≡ spelled lines ++ (rest ++ more)
whole_more read rest more lines whole = ap (λ xs. xs ++ more) whole ∙ append_assoc (spelled lines) rest more

pub cut_byte : (read rest : List ℕ) (lines : List (List ℕ)) (x : ℕ) → x ≢ 10 → IsCut read lines rest → IsCut (read ++ x ∷ []) lines (rest ++ x ∷ [])
cut_byte read rest lines x other cut = record {
  whole = whole_more read rest (x ∷ []) lines cut.whole;
  lined = cut.lined;
  open_rest = line_more rest x cut.open_rest other;
}

pub cut_feed : (read rest : List ℕ) (lines : List (List ℕ)) (x : ℕ) → x ≡ 10 → IsCut read lines rest → IsCut (read ++ x ∷ []) (lines ++ rest ∷ []) []
cut_feed read rest lines x feed cut = record {
  whole = ap (λ (y : ℕ). read ++ y ∷ []) feed ∙ whole_more read rest (10 ∷ []) lines cut.whole ∙ sym (spelled-more lines rest)
      ∙ sym (append-nil (spelled (lines ++ rest ∷ [])));
  lined = are_more lines rest cut.lined cut.open_rest;
  open_rest = tt;
}

-- the line that a line feed ends
pub next_feed : (read rest : List ℕ) (lines : List (List ℕ)) (x : ℕ) (AtEnd : Type 0) → x ≡ 10 → IsCut read lines rest → IsNext (read ++ x ∷ []) lines rest 1 AtEnd
next_feed read rest lines x AtEnd feed cut = (
  cut.lined,
  cut.open_rest,
  inl ([], ap (λ (y : ℕ). read ++ y ∷ []) feed ∙ whole_more read rest (10 ∷ []) lines cut.whole, omega arith),
)

next_on_by : (read more line : List ℕ) (lines : List (List ℕ)) (most most' : ℕ) (AtEnd : Type 0) → length more + most ≤ most'
    → ((rest : List ℕ) × (read ≡ spelled lines ++ (line ++ 10 ∷ rest)) × (length rest < most)) ⊎ ((read ≡ spelled lines ++ line) × (line ≢ []) × ⊥)
    → ((rest : List ℕ) × (read ++ more ≡ spelled lines ++ (line ++ 10 ∷ rest)) × (length rest < most')) ⊎ ((read ++ more ≡ spelled lines ++ line) × (line ≢ []) × AtEnd)
next_on_by read more line lines most most' AtEnd fits (inl w) = inl (
  w.0 ++ more,
  whole_more read (line ++ 10 ∷ w.0) more lines w.1 ∙ ap (λ xs. spelled lines ++ xs) (append_assoc line (10 ∷ w.0) more),
  omega (arith, length-append w.0 more, w.2),
)
next_on_by read more line lines most most' AtEnd fits (inr w) = absurd w.2

-- more was read behind it
pub next_on : (read more line : List ℕ) (lines : List (List ℕ)) (most most' : ℕ) (AtEnd : Type 0) → length more + most ≤ most'
    → IsNext read lines line most ⊥ → IsNext (read ++ more) lines line most' AtEnd
next_on read more line lines most most' AtEnd fits next = (next.0, next.1, next_on_by read more line lines most most' AtEnd fits next.2)

next_weaker_by : (read line : List ℕ) (lines : List (List ℕ)) (most most' : ℕ) (AtEnd AtEnd' : Type 0) → most ≤ most' → (AtEnd → AtEnd')
    → ((rest : List ℕ) × (read ≡ spelled lines ++ (line ++ 10 ∷ rest)) × (length rest < most)) ⊎ ((read ≡ spelled lines ++ line) × (line ≢ []) × AtEnd)
    → ((rest : List ℕ) × (read ≡ spelled lines ++ (line ++ 10 ∷ rest)) × (length rest < most')) ⊎ ((read ≡ spelled lines ++ line) × (line ≢ []) × AtEnd')
next_weaker_by read line lines most most' AtEnd AtEnd' fits at_end (inl w) = inl (w.0, w.1, omega (arith, w.2))
next_weaker_by read line lines most most' AtEnd AtEnd' fits at_end (inr w) = inr (w.0, w.1, at_end w.2)

pub next_weaker : (read line : List ℕ) (lines : List (List ℕ)) (most most' : ℕ) (AtEnd AtEnd' : Type 0) → most ≤ most' → (AtEnd → AtEnd')
    → IsNext read lines line most AtEnd → IsNext read lines line most' AtEnd'
next_weaker read line lines most most' AtEnd AtEnd' fits at_end next =
    (next.0, next.1, next_weaker_by read line lines most most' AtEnd AtEnd' fits at_end next.2)

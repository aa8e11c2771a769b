-- Each token is the longest that fits, and what follows is lexed anew.
use Rattle.std.proofs.Common.{ℕ, suc, Bool, true, false, List, [], ◌∷◌, ◌++◌, length, ◌≡◌, ◌≤◌, ◌<◌, ◌+◌, ◌-◌, ◌&&◌, ◌||◌, ◌==◌, inl, inr, Option, Some, None, Result, Ok, Err, if◌then◌else◌, refl, sym, ◌∙◌, ap, subst, append_assoc, append-nil, add-zero, arith, slice_index}
use Rattle.std.specs.List.{list_all}
use Rattle.std.proofs.lemmas.Bool.{eqb-true, ne_eqb}
use Rattle.carte_name.specs.declared.kind.Kind.{Kind}
use Rattle.carte_name.specs.Names.{is_digit, is_lower, is_upper, is_letter, is_name_byte}
use Rattle.carte_lexer.specs.Tokens.{Token, Placed}
use Rattle.carte_lexer.specs.Lexer.{Class, numeral, small, capitals, letters, less, greater, inside, closing, Start, blank, single, begins, wrong, is_blank, sign_of, start_of, grown_run, token_of, idle, run, before, emit, from_start, from_run, lexed}
use Rattle.carte_lexer.specs.Longest.{IsToken, Begins}
use Rattle.carte_lexer.proofs.Bytes.{and_left, and_right, and_both, within, below}
use Rattle.carte_lexer.proofs.Lexing.{Stopped, is_going, run_ends, run_step}
use Rattle.carte_lexer.proofs.Running.{last_of, goes, or_cases}

-- 1. blanks

or_high : (x y : Bool) (b : ℕ) → (x ≡ true → 33 ≤ b) → (y ≡ true → 33 ≤ b) → (x || y) ≡ true → 33 ≤ b
or_high x y b f g h = elim (or_cases x y h) [ inl k ↦ f k | inr k ↦ g k ]

equal_high : (n b : ℕ) → 33 ≤ n → (b == n) ≡ true → 33 ≤ b
equal_high n b k h = let e : b ≡ n = eqb-true b n h in omega arith

digit_high : (b : ℕ) → is_digit b ≡ true → 33 ≤ b
digit_high b h = let w = within 48 57 b h in omega arith

upper_high : (b : ℕ) → is_upper b ≡ true → 33 ≤ b
upper_high b h = let w = within 65 90 b h in omega arith

lower_high : (b : ℕ) → is_lower b ≡ true → 33 ≤ b
lower_high b h = let w = within 97 122 b h in omega arith

name_high : (b : ℕ) → is_name_byte b ≡ true → 33 ≤ b
name_high b = or_high (((is_lower b || is_digit b) || b == 95) || b == 46) (b == 47) b
    (or_high ((is_lower b || is_digit b) || b == 95) (b == 46) b
    (or_high (is_lower b || is_digit b) (b == 95) b (or_high (is_lower b) (is_digit b) b (lower_high b) (digit_high b)) (equal_high 95 b (omega arith)))
    (equal_high 46 b (omega arith)))
    (equal_high 47 b (omega arith))

word_high : (b : ℕ) → (is_letter b || is_digit b) ≡ true → 33 ≤ b
word_high b = or_high (is_letter b) (is_digit b) b (or_high (is_upper b) (is_lower b) b (upper_high b) (lower_high b)) (digit_high b)

no_blank : (b : ℕ) → 33 ≤ b → is_blank b ≡ false
no_blank b h = rw (ne_eqb b 32 (λ e. let z : ⊥ = omega arith in z), ne_eqb b 9 (λ e. let z : ⊥ = omega arith in z), ne_eqb b 10 (λ e. let z : ⊥ = omega arith in z), ne_eqb b 13 (λ e. let z : ⊥ = omega arith in z)) refl

or_low : (x y : Bool) (b : ℕ) → (x ≡ true → b < 33) → (y ≡ true → b < 33) → (x || y) ≡ true → b < 33
or_low x y b f g h = elim (or_cases x y h) [ inl k ↦ f k | inr k ↦ g k ]

equal_low : (n b : ℕ) → n < 33 → (b == n) ≡ true → b < 33
equal_low n b k h = let e : b ≡ n = eqb-true b n h in omega arith

blank_low : (b : ℕ) → is_blank b ≡ true → b < 33
blank_low b = or_low ((b == 32 || b == 9) || b == 10) (b == 13) b
    (or_low (b == 32 || b == 9) (b == 10) b (or_low (b == 32) (b == 9) b (equal_low 32 b (omega arith)) (equal_low 9 b (omega arith))) (equal_low 10 b (omega arith)))
    (equal_low 13 b (omega arith))

blank_starts : (q : Kind) (b : ℕ) → is_blank b ≡ true → start_of q b ≡ blank
blank_starts q b h = let low = blank_low b h in rw (below 48 57 b (omega arith), below 97 122 b (omega arith), below 65 90 b (omega arith), h) refl

-- what begins a token is no blank
unblank : (q : Kind) (b : ℕ) (s : Start) → start_of q b ≡ s → (s ≡ blank → ⊥) → is_blank b ≡ false
unblank q b s is never = by_test (is_blank b) refl
  where
    by_test : (t : Bool) → is_blank b ≡ t → t ≡ false
    by_test true h = absurd (never (sym is ∙ blank_starts q b h))
    by_test false h = refl

not_first : (t : Bool) (x y : Start) → (if t then x else y) ≡ blank → (x ≡ blank → ⊥) → y ≡ blank
not_first true x y h never = absurd (never h)
not_first false x y h never = h

single_not : (t : Token) → single t ≡ blank → ⊥
single_not t h = let z : ⊥ = cc in z

begins_not : (c : Class) → begins c ≡ blank → ⊥
begins_not c h = let z : ⊥ = cc in z

wrong_not : wrong ≡ blank → ⊥
wrong_not h = let z : ⊥ = cc in z

sign_not : (b : ℕ) → sign_of b ≡ blank → ⊥
sign_not b h =
    let h1 = not_first (b == 43) _ _ h (single_not _) in
    let h2 = not_first (b == 45) _ _ h1 (single_not _) in
    let h3 = not_first (b == 42) _ _ h2 (single_not _) in
    let h4 = not_first (b == 47) _ _ h3 (single_not _) in
    let h5 = not_first (b == 38) _ _ h4 (single_not _) in
    let h6 = not_first (b == 61) _ _ h5 (single_not _) in
    let h7 = not_first (b == 60) _ _ h6 (begins_not _) in
    let h8 = not_first (b == 62) _ _ h7 (begins_not _) in
    let h9 = not_first (b == 40) _ _ h8 (single_not _) in
    let h10 = not_first (b == 41) _ _ h9 (single_not _) in
    let h11 = not_first (b == 44) _ _ h10 (single_not _) in
    let h12 = not_first (b == 58) _ _ h11 (single_not _) in
    wrong_not h12

blank_is : (t : Bool) (y : Start) → (if t then blank else y) ≡ blank → (y ≡ blank → ⊥) → t ≡ true
blank_is true y h never = refl
blank_is false y h never = absurd (never h)

start_blank : (q : Kind) (b : ℕ) → start_of q b ≡ blank → is_blank b ≡ true
start_blank q b h =
    let h1 = not_first (is_digit b) _ _ h (begins_not _) in
    let h2 = not_first (is_lower b) _ _ h1 (begins_not _) in
    let h3 = not_first (is_upper b) _ _ h2 (begins_not _) in
    blank_is (is_blank b) _ h3 (λ e. sign_not b (not_first (b == 34) _ _ e (begins_not _)))

-- 2. texts without tokens

before_not : (p : Placed) (r : Result (List Placed) ℕ) → before p r ≡ Ok [] → ⊥
before_not p (Ok ps) h = let z : ⊥ = cc in z
before_not p (Err place) h = let z : ⊥ = cc in z

emit_not : (o : Option Token) (place : ℕ) (r : Result (List Placed) ℕ) → emit o place r ≡ Ok [] → ⊥
emit_not None place r h = let z : ⊥ = cc in z
emit_not (Some t) place r h = before_not (record { place = place; token = t }) r h

run_not : (q : Kind) (c : Class) (place : ℕ) (bs : List ℕ) (at : ℕ) (rest : List ℕ) → lexed q (run c place bs) at rest ≡ Ok [] → ⊥
run_not q c place bs at [] h = emit_not (token_of c bs) place (Ok []) h
run_not q c place bs at (b ∷ rest) h = run_with (grown_run c (length bs) b) (λ d k. run_not q d place (bs ++ b ∷ []) (at + 1) rest k) h
  where
    run_with : (o : Option Class) → ((d : Class) → lexed q (run d place (bs ++ b ∷ [])) (at + 1) rest ≡ Ok [] → ⊥) → from_run o c place bs (start_of q b) at b (λ p. lexed q p (at + 1) rest) ≡ Ok [] → ⊥
    run_with None go k = emit_not (token_of c bs) place (from_start (start_of q b) at b (λ p. lexed q p (at + 1) rest)) k
    run_with (Some d) go k = go d k

-- they are blank
pub none_blank : (q : Kind) (at : ℕ) (bytes : List ℕ) → lexed q idle at bytes ≡ Ok [] → list_all is_blank bytes ≡ true
none_blank q at [] h = refl
none_blank q at (b ∷ rest) h = none_with (start_of q b) refl (λ k. none_blank q (at + 1) rest k) h
  where
    none_with : (s : Start) → start_of q b ≡ s → (lexed q idle (at + 1) rest ≡ Ok [] → list_all is_blank rest ≡ true) → from_start s at b (λ p. lexed q p (at + 1) rest) ≡ Ok [] → list_all is_blank (b ∷ rest) ≡ true
    none_with blank is go k = and_both (is_blank b) (list_all is_blank rest) (start_blank q b is) (go k)
    none_with (single t) is go k = absurd (emit_not (Some t) at (lexed q idle (at + 1) rest) k)
    none_with (begins c) is go k = absurd (run_not q c at (b ∷ []) (at + 1) rest k)
    none_with wrong is go k = absurd (let z : ⊥ = cc in z)

last_blank : (word more : List ℕ) → 0 < length more → list_all is_blank more ≡ true → is_blank (slice_index (word ++ more) (length (word ++ more) - 1)) ≡ true
last_blank word [] some all = absurd (let z : ⊥ = omega arith in z)
last_blank word (b ∷ []) some all = rw (last_of word b) (and_left (is_blank b) true all)
last_blank word (b ∷ c ∷ xs) some all = rw (← append_assoc word (b ∷ []) (c ∷ xs)) (last_blank (word ++ b ∷ []) (c ∷ xs) (omega arith) (and_right (is_blank b) (list_all is_blank (c ∷ xs)) all))

-- with blanks behind it a token isn't one
no_more : (q : Kind) (word more : List ℕ) (t : Token) (end : ℕ) → IsToken q (word ++ more) t → 0 < length more → lexed q idle end more ≡ Ok [] → ⊥
no_more q word more t end token some none =
    let x = last_blank word more some (none_blank q end more none) in
    let y = token.tight in
    let z : ⊥ = cc in z

-- 3. runs

abbrev Tight : List ℕ → Type 0
Tight bs = is_blank (slice_index bs (length bs - 1)) ≡ false

abbrev TightAs : Class → List ℕ → Type 0
TightAs inside bs = Unit {0}
TightAs _ bs = Tight bs

tight_last : (bs : List ℕ) (b : ℕ) → 33 ≤ b → Tight (bs ++ b ∷ [])
tight_last bs b h = rw (last_of bs b) (no_blank b h)

tight_as : (c : Class) (bs : List ℕ) → Tight bs → TightAs c bs
tight_as numeral bs h = h
tight_as small bs h = h
tight_as capitals bs h = h
tight_as letters bs h = h
tight_as less bs h = h
tight_as greater bs h = h
tight_as inside bs h = tt
tight_as closing bs h = h

tight_grown : (p : Bool) (c e : Class) (bs : List ℕ) (b : ℕ) → (p ≡ true → 33 ≤ b) → (if p then Some c else None) ≡ Some e → TightAs e (bs ++ b ∷ [])
tight_grown true c e bs b high g = tight_as e (bs ++ b ∷ []) (tight_last bs b (high refl))
tight_grown false c e bs b high g = absurd (let z : ⊥ = cc in z)

tight_inside : (x : Bool) (e : Class) (bs : List ℕ) (b : ℕ) → (b == 34) ≡ x → ◌≡◌ {A = Option Class} (Some (if x then closing else inside)) (Some e) → TightAs e (bs ++ b ∷ [])
tight_inside true e bs b is g = tight_as e (bs ++ b ∷ []) (tight_last bs b (equal_high 34 b (omega arith) is))
tight_inside false e bs b is g = let c : inside ≡ e = cc in subst (λ d. TightAs d (bs ++ b ∷ [])) c tt

tight_on : (c e : Class) (bs : List ℕ) (b : ℕ) → grown_run c (length bs) b ≡ Some e → TightAs e (bs ++ b ∷ [])
tight_on numeral e bs b g = let w = goes (is_digit b) numeral e g in tight_as e (bs ++ b ∷ []) (tight_last bs b (digit_high b w.0))
tight_on small e bs b g = let w = goes (is_name_byte b) small e g in tight_as e (bs ++ b ∷ []) (tight_last bs b (name_high b w.0))
tight_on capitals e bs b g = let w = goes (is_upper b) capitals e g in tight_as e (bs ++ b ∷ []) (tight_last bs b (upper_high b w.0))
tight_on letters e bs b g = let w = goes (is_letter b || is_digit b) letters e g in tight_as e (bs ++ b ∷ []) (tight_last bs b (word_high b w.0))
tight_on less e bs b g =
    let w = goes (length bs == 1 && (b == 61 || b == 62)) less e g in
    tight_as e (bs ++ b ∷ []) (tight_last bs b (or_high (b == 61) (b == 62) b (equal_high 61 b (omega arith)) (equal_high 62 b (omega arith)) (and_right (length bs == 1) (b == 61 || b == 62) w.0)))
tight_on greater e bs b g =
    let w = goes (length bs == 1 && b == 61) greater e g in
    tight_as e (bs ++ b ∷ []) (tight_last bs b (equal_high 61 b (omega arith) (and_right (length bs == 1) (b == 61) w.0)))
tight_on inside e bs b g = tight_inside (b == 34) e bs b refl g
tight_on closing e bs b g = let w = goes (b == 34) inside e g in tight_as e (bs ++ b ∷ []) (tight_last bs b (equal_high 34 b (omega arith) w.0))

tight_token : (c : Class) (bs : List ℕ) (t : Token) → token_of c bs ≡ Some t → TightAs c bs → Tight bs
tight_token numeral bs t is h = h
tight_token small bs t is h = h
tight_token capitals bs t is h = h
tight_token letters bs t is h = h
tight_token less bs t is h = h
tight_token greater bs t is h = h
tight_token inside bs t is h = absurd (let z : ⊥ = cc in z)
tight_token closing bs t is h = h

-- where a run ends, whatever follows
record Split (c : Class) (bs rest : List ℕ) : Type 0 where
  pub last : Class
  pub more : List ℕ
  pub behind : List ℕ
  pub parts : rest ≡ more ++ behind
  pub goes_so : (q : Kind) (place at : ℕ) (tail : List ℕ) → lexed q (run c place bs) at (more ++ tail) ≡ lexed q (run last place (bs ++ more)) (at + length more) tail
  pub stops : Stopped (λ b. is_going (grown_run last (length (bs ++ more)) b)) behind
  pub tight : TightAs last (bs ++ more)

split_end : (c : Class) (bs rest : List ℕ) → TightAs c bs → Stopped (λ b. is_going (grown_run c (length bs) b)) rest → Split c bs rest
split_end c bs rest tight stop = record {
  last = c;
  more = [];
  behind = rest;
  parts = refl;
  goes_so = λ q place at tail. rw (append-nil bs, add-zero at) refl;
  stops = rw (append-nil bs) stop;
  tight = rw (append-nil bs) tight;
}

split_step : (c d : Class) (bs : List ℕ) (b : ℕ) (rest : List ℕ) → grown_run c (length bs) b ≡ Some d → Split d (bs ++ b ∷ []) rest → Split c bs (b ∷ rest)
split_step c d bs b rest is s = record {
  last = s.last;
  more = b ∷ s.more;
  behind = s.behind;
  parts = ap (λ xs. b ∷ xs) s.parts;
  goes_so = λ q place at tail.
      let e : (at + 1) + length s.more ≡ at + suc (length s.more) = omega arith in
      run_step q c d place bs at b (s.more ++ tail) is ∙ s.goes_so q place (at + 1) tail ∙ rw (append_assoc bs (b ∷ []) s.more, e) refl;
  stops = rw (append_assoc bs (b ∷ []) s.more) at s.stops;
  tight = rw (append_assoc bs (b ∷ []) s.more) at s.tight;
}

split : (c : Class) (bs rest : List ℕ) → TightAs c bs → Split c bs rest
split c bs [] tight = split_end c bs [] tight tt
split c bs (b ∷ rest) tight = split_with (grown_run c (length bs) b) refl (λ d t. split d (bs ++ b ∷ []) rest t)
  where
    split_with : (o : Option Class) → grown_run c (length bs) b ≡ o → ((d : Class) → TightAs d (bs ++ b ∷ []) → Split d (bs ++ b ∷ []) rest) → Split c bs (b ∷ rest)
    split_with None is go = split_end c bs (b ∷ rest) tight (ap is_going is)
    split_with (Some d) is go = split_step c d bs b rest is (go d (tight_on c d bs b is))

stopped_less : (p : ℕ → Bool) (more behind : List ℕ) → Stopped p (more ++ behind) → Stopped p more
stopped_less p [] behind h = tt
stopped_less p (b ∷ more) behind h = h

-- 4. the first token

before_is : (p : Placed) (r : Result (List Placed) ℕ) (o : Placed) (later : List Placed) → before p r ≡ Ok (o ∷ later) → (p ≡ o) × (r ≡ Ok later)
before_is p (Ok ps) o later h = (let e : p ≡ o = cc in e, (let e : ps ≡ later = cc in ap (λ xs. Ok xs) e))
before_is p (Err place) o later h = absurd (let z : ⊥ = cc in z)

found_sign : (q : Kind) (at b : ℕ) (rest : List ℕ) (t : Token) (later : List Placed) → start_of q b ≡ single t → lexed q idle (at + 1) rest ≡ Ok later → Begins q at (b ∷ rest) (record { place = at; token = t }) later
found_sign q at b rest t later is anew = record {
  blanks = [];
  word = b ∷ [];
  rest = rest;
  parts = refl;
  blank = refl;
  place = sym (add-zero at);
  is = record { alone = λ a. ap (λ s. from_start s a b (λ p. lexed q p (a + 1) [])) is; tight = unblank q b (single t) is (single_not t) };
  anew = anew;
  longest = λ more behind u parts some token.
      let k = sym (ap (λ s. from_start s 0 b (λ p. lexed q p (0 + 1) more)) is) ∙ token.alone 0 in
      no_more q (b ∷ []) more u (0 + 1) token some (before_is (record { place = 0; token = t }) (lexed q idle (0 + 1) more) (record { place = 0; token = u }) [] k).1;
}

run_lexed : (q : Kind) (c : Class) (b : ℕ) (rest : List ℕ) (s : Split c (b ∷ []) rest) (at : ℕ) (tail : List ℕ) → start_of q b ≡ begins c → Stopped (λ x. is_going (grown_run s.last (length ((b ∷ []) ++ s.more)) x)) tail
    → lexed q idle at (b ∷ (s.more ++ tail)) ≡ emit (token_of s.last (b ∷ s.more)) at (lexed q idle ((at + 1) + length s.more) tail)
run_lexed q c b rest s at tail is stop =
    ap (λ x. from_start x at b (λ p. lexed q p (at + 1) (s.more ++ tail))) is
    ∙ s.goes_so q at (at + 1) tail
    ∙ run_ends q s.last at (b ∷ s.more) ((at + 1) + length s.more) tail stop

found_run : (q : Kind) (c : Class) (at b : ℕ) (rest : List ℕ) (s : Split c (b ∷ []) rest) (t : Token) (later : List Placed) → start_of q b ≡ begins c → token_of s.last (b ∷ s.more) ≡ Some t
    → lexed q idle ((at + 1) + length s.more) s.behind ≡ Ok later → Begins q at (b ∷ rest) (record { place = at; token = t }) later
found_run q c at b rest s t later is made anew = record {
  blanks = [];
  word = b ∷ s.more;
  rest = s.behind;
  parts = ap (λ xs. b ∷ xs) s.parts;
  blank = refl;
  place = sym (add-zero at);
  is = record {
    alone = λ a. ap (λ xs. lexed q idle a (b ∷ xs)) (sym (append-nil s.more)) ∙ run_lexed q c b rest s a [] is tt ∙ ap (λ o. emit o a (Ok [])) made;
    tight = tight_token s.last (b ∷ s.more) t made s.tight;
  };
  anew = let e : at + length (b ∷ s.more) ≡ (at + 1) + length s.more = omega arith in rw e anew;
  longest = λ more behind u parts some token.
      let stop = stopped_less (λ x. is_going (grown_run s.last (length ((b ∷ []) ++ s.more)) x)) more behind (rw parts at s.stops) in
      let k = sym (run_lexed q c b rest s 0 more is stop ∙ ap (λ o. emit o 0 (lexed q idle ((0 + 1) + length s.more) more)) made) ∙ token.alone 0 in
      no_more q (b ∷ s.more) more u ((0 + 1) + length s.more) token some (before_is (record { place = 0; token = t }) (lexed q idle ((0 + 1) + length s.more) more) (record { place = 0; token = u }) [] k).1;
}

run_with : (o : Option Token) (q : Kind) (c : Class) (at b : ℕ) (rest : List ℕ) (s : Split c (b ∷ []) rest) (p : Placed) (later : List Placed) → start_of q b ≡ begins c → token_of s.last (b ∷ s.more) ≡ o
    → emit o at (lexed q idle ((at + 1) + length s.more) s.behind) ≡ Ok (p ∷ later) → Begins q at (b ∷ rest) p later
run_with None q c at b rest s p later is made h = absurd (let z : ⊥ = cc in z)
run_with (Some t) q c at b rest s p later is made h =
    let w = before_is (record { place = at; token = t }) (lexed q idle ((at + 1) + length s.more) s.behind) p later h in
    subst (λ o. Begins q at (b ∷ rest) o later) w.0 (found_run q c at b rest s t later is made w.1)

more_blank : (q : Kind) (at b : ℕ) (rest : List ℕ) (p : Placed) (later : List Placed) → start_of q b ≡ blank → Begins q (at + 1) rest p later → Begins q at (b ∷ rest) p later
more_blank q at b rest p later is g = record {
  blanks = b ∷ g.blanks;
  word = g.word;
  rest = g.rest;
  parts = ap (λ xs. b ∷ xs) g.parts;
  blank = and_both (is_blank b) (list_all is_blank g.blanks) (start_blank q b is) g.blank;
  place = let e : (at + 1) + length g.blanks ≡ at + length (b ∷ g.blanks) = omega arith in g.place ∙ e;
  is = g.is;
  anew = g.anew;
  longest = g.longest;
}

pub first_token : (q : Kind) (at : ℕ) (bytes : List ℕ) (p : Placed) (later : List Placed) → lexed q idle at bytes ≡ Ok (p ∷ later) → Begins q at bytes p later
first_token q at [] p later h = absurd (let z : ⊥ = cc in z)
first_token q at (b ∷ rest) p later h = first_with (start_of q b) refl (λ k. first_token q (at + 1) rest p later k) h
  where
    first_with : (s : Start) → start_of q b ≡ s → (lexed q idle (at + 1) rest ≡ Ok (p ∷ later) → Begins q (at + 1) rest p later) → from_start s at b (λ r. lexed q r (at + 1) rest) ≡ Ok (p ∷ later) → Begins q at (b ∷ rest) p later
    first_with blank is go k = more_blank q at b rest p later is (go k)
    first_with (single t) is go k =
        let w = before_is (record { place = at; token = t }) (lexed q idle (at + 1) rest) p later k in
        subst (λ o. Begins q at (b ∷ rest) o later) w.0 (found_sign q at b rest t later is w.1)
    first_with (begins c) is go k =
        let s = split c (b ∷ []) rest (tight_as c (b ∷ []) (unblank q b (begins c) is (begins_not c))) in
        let e : lexed q (run c at (b ∷ [])) (at + 1) rest ≡ emit (token_of s.last (b ∷ s.more)) at (lexed q idle ((at + 1) + length s.more) s.behind) =
        ap (λ xs. lexed q (run c at (b ∷ [])) (at + 1) xs) s.parts ∙ s.goes_so q at (at + 1) s.behind ∙ run_ends q s.last at (b ∷ s.more) ((at + 1) + length s.more) s.behind s.stops in
        run_with (token_of s.last (b ∷ s.more)) q c at b rest s p later is refl (sym e ∙ k)
    first_with wrong is go k = absurd (let z : ⊥ = cc in z)

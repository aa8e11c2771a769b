-- How runs go on and end.
use Rattle.std.proofs.Common.{subst, inl, inr, ◌⊎◌, ℕ, Bool, true, false, List, [], ◌∷◌, ◌++◌, length, drop, ◌≡◌, ◌≤◌, ◌<◌, ◌+◌, ◌-◌, ◌&&◌, ◌||◌, ◌==◌, Option, Some, None, if◌then◌else◌, refl, sym, ◌∙◌, ap, add-one, length-append, arith, slice_index, slice_range, get_or, drop-cons}
use Rattle.std.specs.List.{list_all}
use Rattle.std.proofs.lemmas.Bool.{eqb-true}
use Rattle.std.proofs.lemmas.List.{drop_all, take_more, length-take-le, length-drop, get_or-drop, get_or_append_left, get_or-append-add}
use Rattle.std.proofs.lemmas.List.Folds.{list_all-append}
use Rattle.carte_name.specs.Names.{is_digit, is_lower, is_upper, is_letter, is_name_byte}
use Rattle.carte_lexer.specs.Lexer.{Class, numeral, small, capitals, letters, less, greater, inside, closing, run, grown_run, going_on, lexed}
use Rattle.carte_lexer.specs.Runs.{RunOk, RunsTo, Running, Keeps}
use Rattle.carte_lexer.proofs.Bytes.{and_right, and_both, within}
use Rattle.carte_lexer.proofs.Lexing.{run_step, run_ends, is_going, Stopped}

pub slice_length : (bytes : List ℕ) (from at : ℕ) → from ≤ at → at ≤ length bytes → length (slice_range bytes from at) ≡ at - from
slice_length bytes from at h k = length-take-le (at - from) (drop from bytes) (rw (length-drop from bytes) (omega arith))

pub slice_more : (bytes : List ℕ) (from at : ℕ) → from ≤ at → at < length bytes → slice_range bytes from (at + 1) ≡ slice_range bytes from at ++ slice_index bytes at ∷ []
slice_more bytes from at h k =
    let n : (at + 1) - from ≡ (at - from) + 1 = omega arith in
    let m : from + (at - from) ≡ at = omega arith in
    rw n (take_more (drop from bytes) (at - from) 0 (rw (length-drop from bytes) (omega arith)) ∙ ap (λ b. slice_range bytes from at ++ b ∷ []) (get_or-drop from bytes (at - from) 0 ∙ ap (λ i. get_or bytes i 0) m))

pub last_of : (bs : List ℕ) (b : ℕ) → slice_index (bs ++ b ∷ []) (length (bs ++ b ∷ []) - 1) ≡ b
last_of bs b = let n : length (bs ++ b ∷ []) - 1 ≡ length bs + 0 = simp length-append (omega arith) in ap (λ i. get_or (bs ++ b ∷ []) i 0) n ∙ get_or-append-add bs (b ∷ []) 0 0

first_kept : (bs : List ℕ) (b : ℕ) → 0 < length bs → slice_index (bs ++ b ∷ []) 0 ≡ slice_index bs 0
first_kept bs b h = get_or_append_left bs (b ∷ []) 0 0 h

none_is : {P : Type 0} (e : Class) → ◌≡◌ {A = Option Class} None (Some e) → P
none_is e h = absurd (let z : ⊥ = cc in z)

-- a run that goes on does so with a byte that passes, as what it was
pub goes : (b : Bool) (c e : Class) → going_on b c ≡ Some e → (b ≡ true) × (c ≡ e)
goes true c e h = (refl, (let z : c ≡ e = cc in z))
goes false c e h = none_is e h

abbrev pub LastAscii : List ℕ → Type 0
LastAscii bs = slice_index bs (length bs - 1) < 128

ascii_last : (bs : List ℕ) (b : ℕ) → b < 128 → LastAscii (bs ++ b ∷ [])
ascii_last bs b h = rw (last_of bs b) h

pub or_cases : (a b : Bool) → (a || b) ≡ true → (a ≡ true) ⊎ (b ≡ true)
or_cases true b h = inl refl
or_cases false b h = inr h

pub digit_low : (b : ℕ) → is_digit b ≡ true → b < 128
digit_low b h = let w = within 48 57 b h in omega arith

pub upper_low : (b : ℕ) → is_upper b ≡ true → b < 128
upper_low b h = let w = within 65 90 b h in omega arith

pub lower_low : (b : ℕ) → is_lower b ≡ true → b < 128
lower_low b h = let w = within 97 122 b h in omega arith

equal_low : (n b : ℕ) → n < 128 → (b == n) ≡ true → b < 128
equal_low n b k h = let e : b ≡ n = eqb-true b n h in omega arith

or_low : (x y : Bool) (b : ℕ) → (x ≡ true → b < 128) → (y ≡ true → b < 128) → (x || y) ≡ true → b < 128
or_low x y b f g h = elim (or_cases x y h) [ inl k ↦ f k | inr k ↦ g k ]

pub name_low : (b : ℕ) → is_name_byte b ≡ true → b < 128
name_low b = or_low (((is_lower b || is_digit b) || b == 95) || b == 46) (b == 47) b
    (or_low ((is_lower b || is_digit b) || b == 95) (b == 46) b
    (or_low (is_lower b || is_digit b) (b == 95) b (or_low (is_lower b) (is_digit b) b (lower_low b) (digit_low b)) (equal_low 95 b (omega arith)))
    (equal_low 46 b (omega arith)))
    (equal_low 47 b (omega arith))

word_low : (b : ℕ) → (is_letter b || is_digit b) ≡ true → b < 128
word_low b = or_low (is_letter b) (is_digit b) b (or_low (is_upper b) (is_lower b) b (upper_low b) (lower_low b)) (digit_low b)

known_as : (c e : Class) (bs : List ℕ) → c ≡ e → RunOk c bs → RunOk e bs
known_as c e bs is h = subst (λ d. RunOk d bs) is h

known_inside : (x : Bool) (e : Class) (bs : List ℕ) (b : ℕ) → 0 < length bs → slice_index bs 0 ≡ 34 → (b == 34) ≡ x → ◌≡◌ {A = Option Class} (Some (if x then closing else inside)) (Some e) → RunOk e (bs ++ b ∷ [])
known_inside true e bs b some h is g =
    let c : closing ≡ e = cc in let q : b ≡ 34 = eqb-true b 34 is in
    known_as closing e (bs ++ b ∷ []) c (first_kept bs b some ∙ h, (simp length-append (omega arith)), last_of bs b ∙ q)
known_inside false e bs b some h is g = let c : inside ≡ e = cc in known_as inside e (bs ++ b ∷ []) c (first_kept bs b some ∙ h)

known_on : (c e : Class) (bs : List ℕ) (b : ℕ) → 0 < length bs → RunOk c bs → grown_run c (length bs) b ≡ Some e → RunOk e (bs ++ b ∷ [])
known_on numeral e bs b some h g =
    let w = goes (is_digit b) numeral e g in
    known_as numeral e (bs ++ b ∷ []) w.1 (list_all-append is_digit bs (b ∷ []) ∙ and_both (list_all is_digit bs) (is_digit b && true) h (and_both (is_digit b) true w.0 refl))
known_on small e bs b some h g =
    let w = goes (is_name_byte b) small e g in
    known_as small e (bs ++ b ∷ []) w.1 (ap is_lower (first_kept bs b some) ∙ h.0, list_all-append is_name_byte bs (b ∷ []) ∙ and_both (list_all is_name_byte bs) (is_name_byte b && true) h.1 (and_both (is_name_byte b) true w.0 refl))
known_on capitals e bs b some h g = let w = goes (is_upper b) capitals e g in known_as capitals e (bs ++ b ∷ []) w.1 (ascii_last bs b (upper_low b w.0))
known_on letters e bs b some h g = let w = goes (is_letter b || is_digit b) letters e g in known_as letters e (bs ++ b ∷ []) w.1 (ascii_last bs b (word_low b w.0))
known_on less e bs b some h g =
    let w = goes (length bs == 1 && (b == 61 || b == 62)) less e g in
    known_as less e (bs ++ b ∷ []) w.1 (ascii_last bs b (or_low (b == 61) (b == 62) b (equal_low 61 b (omega arith)) (equal_low 62 b (omega arith)) (and_right (length bs == 1) (b == 61 || b == 62) w.0)))
known_on greater e bs b some h g =
    let w = goes (length bs == 1 && b == 61) greater e g in
    known_as greater e (bs ++ b ∷ []) w.1 (ascii_last bs b (equal_low 61 b (omega arith) (and_right (length bs == 1) (b == 61) w.0)))
known_on inside e bs b some h g = known_inside (b == 34) e bs b some h refl g
known_on closing e bs b some h g = let w = goes (b == 34) inside e g in known_as inside e (bs ++ b ∷ []) w.1 (first_kept bs b some ∙ h.0)

pub starts : (c : Class) (bytes : List ℕ) (from : ℕ) → from < length bytes → RunOk c (slice_range bytes from (from + 1)) → Running c bytes from c (from + 1)
starts c bytes from low known = record { after = omega arith; within = omega arith; known = known; gives = λ q. refl }

pub runs_on : (c d e : Class) (bytes : List ℕ) (from at : ℕ) → Running c bytes from d at → at < length bytes → grown_run d (at - from) (slice_index bytes at) ≡ Some e → Running c bytes from e (at + 1)
runs_on c d e bytes from at r low g =
    let a : from < at = r.after in
    let n : length (slice_range bytes from at) ≡ at - from = slice_length bytes from at (omega arith) (omega arith) in
    let m : slice_range bytes from (at + 1) ≡ slice_range bytes from at ++ slice_index bytes at ∷ [] = slice_more bytes from at (omega arith) low in
    let g' : grown_run d (length (slice_range bytes from at)) (slice_index bytes at) ≡ Some e = rw n g in
    let cut : drop at bytes ≡ slice_index bytes at ∷ drop (at + 1) bytes = (rw add-one (drop-cons bytes at 0 low)) in
    record {
      after = omega arith;
      within = omega arith;
      known = rw m (known_on d e (slice_range bytes from at) (slice_index bytes at) (omega arith) r.known g');
      gives = λ q. r.gives q ∙ ap (λ xs. lexed q (run d from (slice_range bytes from at)) at xs) cut ∙ run_step q d e from (slice_range bytes from at) at (slice_index bytes at) (drop (at + 1) bytes) g' ∙ ap (λ bs. lexed q (run e from bs) (at + 1) (drop (at + 1) bytes)) (sym m);
    }

stops : (c d : Class) (bytes : List ℕ) (from at : ℕ) → Running c bytes from d at → Stopped (λ b. is_going (grown_run d (length (slice_range bytes from at)) b)) (drop at bytes) → RunsTo c bytes from d at
stops c d bytes from at r s =
    record { after = r.after; within = r.within; known = r.known; gives = λ q. r.gives q ∙ run_ends q d from (slice_range bytes from at) at (drop at bytes) s }

pub runs_out : (c d : Class) (bytes : List ℕ) (from at : ℕ) → Running c bytes from d at → length bytes ≤ at → RunsTo c bytes from d at
runs_out c d bytes from at r high = stops c d bytes from at r (rw (drop_all at bytes high) tt)

pub runs_ended : (c d : Class) (bytes : List ℕ) (from at : ℕ) → Running c bytes from d at → at < length bytes → grown_run d (at - from) (slice_index bytes at) ≡ None → RunsTo c bytes from d at
runs_ended c d bytes from at r low g =
    let a : from < at = r.after in
    let n : length (slice_range bytes from at) ≡ at - from = slice_length bytes from at (omega arith) (omega arith) in
    let cut : drop at bytes ≡ slice_index bytes at ∷ drop (at + 1) bytes = (rw add-one (drop-cons bytes at 0 low)) in
    let g' : grown_run d (length (slice_range bytes from at)) (slice_index bytes at) ≡ None = rw n g in
    stops c d bytes from at r (rw cut (ap is_going g'))

-- a run that keeps its class goes on
pub keeps_on : (c e : Class) (bytes : List ℕ) (from at : ℕ) → Keeps c → Running c bytes from c at → at < length bytes → grown_run c (at - from) (slice_index bytes at) ≡ Some e → Running c bytes from c (at + 1)
keeps_on c e bytes from at keeps r low g =
    subst (λ d. Running c bytes from d (at + 1)) (sym (keeps e (at - from) (slice_index bytes at) g)) (runs_on c c e bytes from at r low g)

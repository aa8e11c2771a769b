-- How tokens are taken from the bytes of a text.
use Rattle.std.proofs.Common.{ℕ, zero, suc, Bool, true, false, List, [], ◌∷◌, ◌++◌, length, drop, ◌≡◌, ◌≤◌, ◌<◌, ◌+◌, ◌-◌, ◌==◌, Option, Some, None, Ok, Err, if◌then◌else◌, refl, sym, ◌∙◌, ap, subst, add-one, arith, slice_index, slice_range, get_or, drop-cons}
use Rattle.std.specs.List.{list_all}
use Rattle.std.specs.Str.{IsUtf8, IsCharBoundary}
use Rattle.std.proofs.lemmas.Bool.{eqb-true}
use Rattle.std.proofs.lemmas.List.{get_or-take, get_or-drop}
use Rattle.std.proofs.lemmas.Str.{IsCharBoundary-before_ascii, IsCharBoundary-after_ascii}
use Rattle.carte_name.specs.Names.{is_digit, is_lower, is_upper, is_name_byte}
use Rattle.carte_name.specs.declared.kind.Kind.{Kind}
use Rattle.carte_name.specs.declared.kind.Kind.TheVariants.{Rules, Sheet}
use Rattle.carte_lexer.specs.Tokens.{Token, op, lpar, rpar, comma, colon, add, sub, mul, div, join, eq}
use Rattle.carte_lexer.specs.Lexer.{Class, numeral, small, capitals, letters, less, greater, inside, closing, Start, blank, single, begins, wrong, is_blank, sign_of, start_of, low_class, high_class, idle, run, emit, from_start, token_of, lexed}
use Rattle.carte_lexer.specs.Runs.{RunOk, RunsTo}
use Rattle.carte_lexer.specs.Takes.{MeetsTo}
use Rattle.carte_lexer.proofs.Bytes.{and_both, and_left, and_right}
use Rattle.carte_lexer.proofs.Running.{slice_more, slice_length, digit_low, lower_low, upper_low, name_low}

-- what is known where a run begins
abbrev pub KnownStart : ℕ → Start → Type 0
KnownStart b (begins c) = RunOk c (b ∷ []) × (b < 128)
KnownStart b _ = Unit {0}

pick : (b : ℕ) (t : Bool) (x y : Start) → (t ≡ true → KnownStart b x) → KnownStart b y → KnownStart b (if t then x else y)
pick b true x y h k = h refl
pick b false x y h k = k

lower_name : (b : ℕ) → is_lower b ≡ true → is_name_byte b ≡ true
lower_name b h = rw h refl

low_known : (q : Kind) (b : ℕ) → is_lower b ≡ true → KnownStart b (begins (low_class q))
low_known Rules b h = ((h, and_both (is_name_byte b) true (lower_name b h) refl), lower_low b h)
low_known Sheet b h = (lower_low b h, lower_low b h)

high_known : (q : Kind) (b : ℕ) → b < 128 → KnownStart b (begins (high_class q))
high_known Rules b h = (h, h)
high_known Sheet b h = (h, h)

equal_known : (n b : ℕ) → n < 128 → (b == n) ≡ true → b < 128
equal_known n b k h = let e : b ≡ n = eqb-true b n h in omega arith

quote_known : (b : ℕ) → (b == 34) ≡ true → KnownStart b (begins inside)
quote_known b h = (eqb-true b 34 h, equal_known 34 b (omega arith) h)

digit_known : (b : ℕ) → is_digit b ≡ true → KnownStart b (begins numeral)
digit_known b h = (and_both (is_digit b) true h refl, digit_low b h)

sign_known : (b : ℕ) → KnownStart b (sign_of b)
sign_known b = pick b (b == 43) (single (op add)) (if b == 45 then single (op sub) else (if b == 42 then single (op mul) else (if b == 47 then single (op div) else (if b == 38 then single (op join) else (if b == 61 then single (op eq) else (if b == 60 then begins less else (if b == 62 then begins greater else (if b == 40 then single lpar else (if b == 41 then single rpar else (if b == 44 then single comma else (if b == 58 then single colon else wrong))))))))))) (λ h. tt) (pick b (b == 45) (single (op sub)) (if b == 42 then single (op mul) else (if b == 47 then single (op div) else (if b == 38 then single (op join) else (if b == 61 then single (op eq) else (if b == 60 then begins less else (if b == 62 then begins greater else (if b == 40 then single lpar else (if b == 41 then single rpar else (if b == 44 then single comma else (if b == 58 then single colon else wrong)))))))))) (λ h. tt) (pick b (b == 42) (single (op mul)) (if b == 47 then single (op div) else (if b == 38 then single (op join) else (if b == 61 then single (op eq) else (if b == 60 then begins less else (if b == 62 then begins greater else (if b == 40 then single lpar else (if b == 41 then single rpar else (if b == 44 then single comma else (if b == 58 then single colon else wrong))))))))) (λ h. tt) (pick b (b == 47) (single (op div)) (if b == 38 then single (op join) else (if b == 61 then single (op eq) else (if b == 60 then begins less else (if b == 62 then begins greater else (if b == 40 then single lpar else (if b == 41 then single rpar else (if b == 44 then single comma else (if b == 58 then single colon else wrong)))))))) (λ h. tt) (pick b (b == 38) (single (op join)) (if b == 61 then single (op eq) else (if b == 60 then begins less else (if b == 62 then begins greater else (if b == 40 then single lpar else (if b == 41 then single rpar else (if b == 44 then single comma else (if b == 58 then single colon else wrong))))))) (λ h. tt) (pick b (b == 61) (single (op eq)) (if b == 60 then begins less else (if b == 62 then begins greater else (if b == 40 then single lpar else (if b == 41 then single rpar else (if b == 44 then single comma else (if b == 58 then single colon else wrong)))))) (λ h. tt) (pick b (b == 60) (begins less) (if b == 62 then begins greater else (if b == 40 then single lpar else (if b == 41 then single rpar else (if b == 44 then single comma else (if b == 58 then single colon else wrong))))) (λ h. (equal_known 60 b (omega arith) h, equal_known 60 b (omega arith) h)) (pick b (b == 62) (begins greater) (if b == 40 then single lpar else (if b == 41 then single rpar else (if b == 44 then single comma else (if b == 58 then single colon else wrong)))) (λ h. (equal_known 62 b (omega arith) h, equal_known 62 b (omega arith) h)) (pick b (b == 40) (single lpar) (if b == 41 then single rpar else (if b == 44 then single comma else (if b == 58 then single colon else wrong))) (λ h. tt) (pick b (b == 41) (single rpar) (if b == 44 then single comma else (if b == 58 then single colon else wrong)) (λ h. tt) (pick b (b == 44) (single comma) (if b == 58 then single colon else wrong) (λ h. tt) (pick b (b == 58) (single colon) wrong (λ h. tt) tt)))))))))))

start_known : (q : Kind) (b : ℕ) → KnownStart b (start_of q b)
start_known q b =
    pick b (is_digit b) (begins numeral) (if is_lower b then begins (low_class q) else if is_upper b then begins (high_class q) else if is_blank b then blank else if b == 34 then begins inside else sign_of b) (digit_known b)
    (pick b (is_lower b) (begins (low_class q)) (if is_upper b then begins (high_class q) else if is_blank b then blank else if b == 34 then begins inside else sign_of b) (low_known q b)
    (pick b (is_upper b) (begins (high_class q)) (if is_blank b then blank else if b == 34 then begins inside else sign_of b) (λ h. high_known q b (upper_low b h))
    (pick b (is_blank b) blank (if b == 34 then begins inside else sign_of b) (λ h. tt)
    (pick b (b == 34) (begins inside) (sign_of b) (quote_known b) (sign_known b)))))

known_run : (q : Kind) (b : ℕ) (c : Class) → start_of q b ≡ begins c → RunOk c (b ∷ []) × (b < 128)
known_run q b c h = rw h at (start_known q b)

pub cut : (bytes : List ℕ) (at : ℕ) → at < length bytes → drop at bytes ≡ slice_index bytes at ∷ drop (at + 1) bytes
cut bytes at h = rw add-one (drop-cons bytes at 0 h)

slice_one : (bytes : List ℕ) (at : ℕ) → at < length bytes → slice_range bytes at (at + 1) ≡ slice_index bytes at ∷ []
slice_one bytes at h =
    slice_more bytes at at (omega arith) h ∙ ap (λ xs. xs ++ slice_index bytes at ∷ []) (slice_none bytes at)
  where
    slice_none : (bytes : List ℕ) (at : ℕ) → slice_range bytes at at ≡ []
    slice_none bytes at = let n : at - at ≡ 0 = omega arith in rw n refl

pub run_known : (q : Kind) (bytes : List ℕ) (at : ℕ) (c : Class) → at < length bytes → start_of q (slice_index bytes at) ≡ begins c → RunOk c (slice_range bytes at (at + 1))
run_known q bytes at c low h = rw (slice_one bytes at low) (known_run q (slice_index bytes at) c h).0

from_step : (q : Kind) (bytes : List ℕ) (at : ℕ) → at < length bytes → lexed q idle at (drop at bytes) ≡ from_start (start_of q (slice_index bytes at)) at (slice_index bytes at) (λ p. lexed q p (at + 1) (drop (at + 1) bytes))
from_step q bytes at h = ap (λ xs. lexed q idle at xs) (cut bytes at h)

started : (q : Kind) (bytes : List ℕ) (at : ℕ) (s : Start) → at < length bytes → start_of q (slice_index bytes at) ≡ s → lexed q idle at (drop at bytes) ≡ from_start s at (slice_index bytes at) (λ p. lexed q p (at + 1) (drop (at + 1) bytes))
started q bytes at s h is = from_step q bytes at h ∙ ap (λ x. from_start x at (slice_index bytes at) (λ p. lexed q p (at + 1) (drop (at + 1) bytes))) is

pub run_taken : (q : Kind) (bytes : List ℕ) (at : ℕ) (c d : Class) (end : ℕ) (o : Option Token) → at < length bytes → start_of q (slice_index bytes at) ≡ begins c → RunsTo c bytes at d end → o ≡ token_of d (slice_range bytes at end)
    → lexed q idle at (drop at bytes) ≡ emit o at (lexed q idle end (drop end bytes))
run_taken q bytes at c d end o h is r made =
    started q bytes at (begins c) h is ∙ ap (λ bs. lexed q (run c at bs) (at + 1) (drop (at + 1) bytes)) (sym (slice_one bytes at h)) ∙ r.gives q ∙ ap (λ x. emit x at (lexed q idle end (drop end bytes))) (sym made)

-- a run but an open text may be cut out of the text
pub run_begins : (q : Kind) (bytes : List ℕ) (at : ℕ) (c : Class) → at < length bytes → start_of q (slice_index bytes at) ≡ begins c → IsCharBoundary bytes at
run_begins q bytes at c h is = IsCharBoundary-before_ascii bytes at h (known_run q (slice_index bytes at) c is).1

all_at : (p : ℕ → Bool) (xs : List ℕ) (i : ℕ) → list_all p xs ≡ true → i < length xs → p (get_or xs i 0) ≡ true
all_at p [] i h low = absurd (let z : ⊥ = omega arith in z)
all_at p (x ∷ xs) zero h low = and_left (p x) (list_all p xs) h
all_at p (x ∷ xs) (suc i) h low = all_at p xs i (and_right (p x) (list_all p xs) h) (omega arith)

last_ascii : (d : Class) (bs : List ℕ) → 0 < length bs → (d ≡ inside → ⊥) → RunOk d bs → slice_index bs (length bs - 1) < 128
last_ascii numeral bs h other k = digit_low (slice_index bs (length bs - 1)) (all_at is_digit bs (length bs - 1) k (omega arith))
last_ascii inside bs h other k = absurd (other refl)
last_ascii closing bs h other k = let e : slice_index bs (length bs - 1) ≡ 34 = k.2 in omega arith
last_ascii small bs h other k = name_low (slice_index bs (length bs - 1)) (all_at is_name_byte bs (length bs - 1) k.1 (omega arith))
last_ascii capitals bs h other k = k
last_ascii letters bs h other k = k
last_ascii less bs h other k = k
last_ascii greater bs h other k = k

last_byte : (bytes : List ℕ) (at end : ℕ) → at < end → end ≤ length bytes → slice_index (slice_range bytes at end) (length (slice_range bytes at end) - 1) ≡ slice_index bytes (end - 1)
last_byte bytes at end h k =
    let n : length (slice_range bytes at end) ≡ end - at = slice_length bytes at end (omega arith) k in
    let m : at + (length (slice_range bytes at end) - 1) ≡ end - 1 = omega arith in
    get_or-take (end - at) (drop at bytes) (length (slice_range bytes at end) - 1) 0 (omega arith) ∙ get_or-drop at bytes (length (slice_range bytes at end) - 1) 0 ∙ ap (λ i. get_or bytes i 0) m

pub run_is_over : (bytes : List ℕ) (at : ℕ) (c d : Class) (end : ℕ) → IsUtf8 bytes → RunsTo c bytes at d end → (d ≡ inside → ⊥) → IsCharBoundary bytes end
run_is_over bytes at c d end u r other =
    let a : at < end = r.after in
    let w : end ≤ length bytes = r.within in
    let n : length (slice_range bytes at end) ≡ end - at = slice_length bytes at end (omega arith) w in
    let l : slice_index (slice_range bytes at end) (length (slice_range bytes at end) - 1) < 128 = last_ascii d (slice_range bytes at end) (omega arith) other r.known in
    let b : slice_index bytes (end - 1) < 128 = rw (last_byte bytes at end a w) at l in
    let e : (end - 1) + 1 ≡ end = omega arith in
    subst (λ i. IsCharBoundary bytes i) e (IsCharBoundary-after_ascii bytes (end - 1) u (omega arith) b)

-- a blank, a sign, and a byte that begins nothing
pub blank_met : (q : Kind) (bytes : List ℕ) (at : ℕ) → at < length bytes → start_of q (slice_index bytes at) ≡ blank → MeetsTo q bytes at (Ok (None, at + 1))
blank_met q bytes at h is = ((omega arith), (omega arith), started q bytes at blank h is)

pub sign_met : (q : Kind) (bytes : List ℕ) (at : ℕ) (token : Token) → at < length bytes → start_of q (slice_index bytes at) ≡ single token → MeetsTo q bytes at (Ok (Some token, at + 1))
sign_met q bytes at token h is = ((omega arith), (omega arith), started q bytes at (single token) h is)

pub wrong_taken : (q : Kind) (bytes : List ℕ) (at : ℕ) → at < length bytes → start_of q (slice_index bytes at) ≡ wrong → lexed q idle at (drop at bytes) ≡ Err at
wrong_taken q bytes at h is = started q bytes at wrong h is

-- a run that is a token, and one that is none
pub run_met : (q : Kind) (bytes : List ℕ) (at : ℕ) (c d : Class) (end : ℕ) (token : Token) → at < length bytes → start_of q (slice_index bytes at) ≡ begins c → RunsTo c bytes at d end → Some token ≡ token_of d (slice_range bytes at end)
    → MeetsTo q bytes at (Ok (Some token, end))
run_met q bytes at c d end token h is runs made = (runs.after, runs.within, run_taken q bytes at c d end (Some token) h is runs made)

pub run_bad : (q : Kind) (bytes : List ℕ) (at : ℕ) (c d : Class) (end : ℕ) → at < length bytes → start_of q (slice_index bytes at) ≡ begins c → RunsTo c bytes at d end → None ≡ token_of d (slice_range bytes at end)
    → lexed q idle at (drop at bytes) ≡ Err at
run_bad q bytes at c d end h is runs made = run_taken q bytes at c d end None h is runs made

pub run_along : (bytes text : List ℕ) (c d : Class) (at end : ℕ) → bytes ≡ text → RunsTo c bytes at d end → RunsTo c text at d end
run_along bytes text c d at end is r = subst (λ bs. RunsTo c bs at d end) is r

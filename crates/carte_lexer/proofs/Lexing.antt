-- The printed bytes of tokens give these tokens.
use Rattle.std.proofs.Common.{ℕ, pos, negsuc, suc, Bool, true, false, List, [], ◌∷◌, ◌++◌, length, ◌≡◌, ◌≤◌, ◌<◌, ◌+◌, ◌-◌, ◌^◌, ◌&&◌, ◌||◌, ◌==◌, ◌⊎◌, inl, inr, Option, Some, None, Result, Ok, if◌then◌else◌, refl, ◌∙◌, ap, append_assoc, length-append, add-zero, arith, subst, nat_lt, nat_le, slice_range}
use Rattle.std.specs.Fmt.{decimal}
use Rattle.std.specs.List.{list_all}
use Rattle.std.specs.Str.{str_to_ascii_uppercase}
use Rattle.std.proofs.lemmas.Bool.{ltb-true, lt-ltb, le-leb, eqb-true, ne_eqb}
use Rattle.std.proofs.Math.Nat.{le_refl}
use Rattle.std.proofs.lemmas.List.{append-nil, take-append-le, take_all}
use Rattle.carte_name.specs.Names.{is_rule_name, is_cell_name, is_digit, is_lower, is_upper, is_letter, is_name_byte}
use Rattle.carte_name.specs.declared.kind.Kind.{Kind}
use Rattle.carte_name.specs.declared.kind.Kind.TheVariants.{Rules, Sheet}
use Rattle.carte_lexer.specs.Tokens.{Op, eq, ne, lt, le, gt, ge, join, add, sub, mul, div, Func, Token, digits, quoted, word, cell, func, op, lpar, rpar, comma, colon, Placed, tokens_of}
use Rattle.carte_tree.specs.declared.expr.Func.TheVariants as functions
use Rattle.carte_lexer.specs.Kinds.{OfKind, AllOfKind}
use Rattle.carte_lexer.specs.Lexer.{Class, numeral, small, capitals, letters, less, greater, inside, closing, Start, begins, start_of, low_class, high_class, grown_run, going_on, token_of, sheet_token, quoted_text, unpaired, Pending, idle, run, before, emit, from_start, from_run, lexed, token_bytes, text_of}
use Rattle.carte_tree.specs.Functions.{func_name}
use Rattle.carte_tree.specs.Printed.{doubled}
use Rattle.carte_lexer.proofs.Bytes.{and_both, and_left, and_right, or_true, within, below, above, decimal_all, decimal_value, decimal_some, first_rest, is_cell_byte, cell_parts, cell_raised, rule_parts}
use Rattle.carte_lexer.proofs.Clear.{Closing, Opening, Bracket, Clear, AllClear}

-- the bytes end, or begin with one that fails the test
abbrev pub Stopped : (ℕ → Bool) → List ℕ → Type 0
Stopped p [] = Unit {0}
Stopped p (b ∷ rest) = p b ≡ false

-- the run goes on with each byte that passes the test
abbrev Steady : Class → (ℕ → Bool) → Type 0
Steady c p = (n b : ℕ) → grown_run c n b ≡ going_on (p b) c

abbrev pub is_going : Option Class → Bool
is_going None = false
is_going (Some c) = true

-- a run that doesn't go on is a token
pub run_ends : (q : Kind) (c : Class) (place : ℕ) (bs : List ℕ) (at : ℕ) (rest : List ℕ) → Stopped (λ b. is_going (grown_run c (length bs) b)) rest
    → lexed q (run c place bs) at rest ≡ emit (token_of c bs) place (lexed q idle at rest)
run_ends q c place bs at [] h = refl
run_ends q c place bs at (b ∷ rest) h = ends_with (grown_run c (length bs) b) c place bs (start_of q b) at b (λ p. lexed q p (at + 1) rest) h
  where
    ends_with : (o : Option Class) (c : Class) (place : ℕ) (bs : List ℕ) (s : Start) (at b : ℕ) (go : Pending → Result (List Placed) ℕ) → is_going o ≡ false
        → from_run o c place bs s at b go ≡ emit (token_of c bs) place (from_start s at b go)
    ends_with None c place bs s at b go h = refl
    ends_with (Some d) c place bs s at b go h = absurd (let z : ⊥ = cc in z)

stops_going : (c : Class) (p : ℕ → Bool) (bs rest : List ℕ) → Steady c p → Stopped p rest → Stopped (λ b. is_going (grown_run c (length bs) b)) rest
stops_going c p bs [] steady h = tt
stops_going c p bs (b ∷ rest) steady h = rw (steady (length bs) b, h) refl

pub run_step : (q : Kind) (c d : Class) (place : ℕ) (bs : List ℕ) (at b : ℕ) (rest : List ℕ) → grown_run c (length bs) b ≡ Some d
    → lexed q (run c place bs) at (b ∷ rest) ≡ lexed q (run d place (bs ++ b ∷ [])) (at + 1) rest
run_step q c d place bs at b rest h = ap (λ o. from_run o c place bs (start_of q b) at b (λ p. lexed q p (at + 1) rest)) h

grown_by : (c : Class) (p : ℕ → Bool) (bs : List ℕ) (b : ℕ) → Steady c p → p b ≡ true → grown_run c (length bs) b ≡ Some c
grown_by c p bs b steady h = rw (steady (length bs) b, h) refl

run_on : (q : Kind) (c : Class) (p : ℕ → Bool) (place : ℕ) (bs xs : List ℕ) (at : ℕ) (rest : List ℕ) → Steady c p → list_all p xs ≡ true
    → lexed q (run c place bs) at (xs ++ rest) ≡ lexed q (run c place (bs ++ xs)) (at + length xs) rest
run_on q c p place bs [] at rest steady h = rw (append-nil bs, add-zero at) refl
run_on q c p place bs (b ∷ xs) at rest steady h =
    let e : (at + 1) + length xs ≡ at + suc (length xs) = omega arith in
    run_step q c c place bs at b (xs ++ rest) (grown_by c p bs b steady (and_left (p b) (list_all p xs) h))
    ∙ run_on q c p place (bs ++ b ∷ []) xs (at + 1) rest steady (and_right (p b) (list_all p xs) h)
    ∙ rw (append_assoc bs (b ∷ []) xs, e) refl

-- the token that bytes begin with, and where it ends
abbrev Lexes : Kind → Token → List ℕ → Type 0
Lexes q t rest = (at : ℕ) → (place : ℕ) × (end : ℕ) × (lexed q idle at (token_bytes t ++ rest) ≡ before (record { place = place; token = t }) (lexed q idle end rest))

start_run : (q : Kind) (c : Class) (at b : ℕ) (rest : List ℕ) → start_of q b ≡ begins c → lexed q idle at (b ∷ rest) ≡ lexed q (run c at (b ∷ [])) (at + 1) rest
start_run q c at b rest h = ap (λ s. from_start s at b (λ p. lexed q p (at + 1) rest)) h

-- a token that is a run of one class
run_lexed : (q : Kind) (c : Class) (p : ℕ → Bool) (b : ℕ) (xs : List ℕ) (t : Token) (rest : List ℕ) (at : ℕ) → start_of q b ≡ begins c → Steady c p → list_all p xs ≡ true → Stopped p rest
    → token_of c (b ∷ xs) ≡ Some t → lexed q idle at ((b ∷ xs) ++ rest) ≡ before (record { place = at; token = t }) (lexed q idle ((at + 1) + length xs) rest)
run_lexed q c p b xs t rest at begin steady all stop is =
    start_run q c at b (xs ++ rest) begin
    ∙ run_on q c p at (b ∷ []) xs (at + 1) rest steady all
    ∙ run_ends q c at (b ∷ xs) ((at + 1) + length xs) rest (stops_going c p (b ∷ xs) rest steady stop)
    ∙ ap (λ o. emit o at (lexed q idle ((at + 1) + length xs) rest)) is

numeral_steady : Steady numeral is_digit
numeral_steady n b = refl

small_steady : Steady small is_name_byte
small_steady n b = refl

capitals_steady : Steady capitals is_upper
capitals_steady n b = refl

abbrev is_word_byte : ℕ → Bool
is_word_byte b = is_letter b || is_digit b

letters_steady : Steady letters is_word_byte
letters_steady n b = refl

-- what closes an operand goes on with no run
abbrev Quiet : (ℕ → Bool) → Type 0
Quiet p = (p 61 ≡ false) × (p 60 ≡ false) × (p 62 ≡ false) × (p 38 ≡ false) × (p 43 ≡ false) × (p 45 ≡ false) × (p 42 ≡ false) × (p 32 ≡ false) × (p 41 ≡ false) × (p 44 ≡ false) × (p 58 ≡ false)

closing_stops : (p : ℕ → Bool) (ts : List Token) → Quiet p → Closing ts → Stopped p (text_of ts)
closing_stops p [] h c = tt
closing_stops p (op eq ∷ ts) h c = h.0
closing_stops p (op ne ∷ ts) h c = h.1
closing_stops p (op lt ∷ ts) h c = h.1
closing_stops p (op le ∷ ts) h c = h.1
closing_stops p (op gt ∷ ts) h c = h.2
closing_stops p (op ge ∷ ts) h c = h.2
closing_stops p (op join ∷ ts) h c = h.3
closing_stops p (op add ∷ ts) h c = h.4
closing_stops p (op sub ∷ ts) h c = h.5
closing_stops p (op mul ∷ ts) h c = h.6
closing_stops p (op div ∷ ts) h c = h.7
closing_stops p (rpar ∷ ts) h c = h.8
closing_stops p (comma ∷ ts) h c = h.9
closing_stops p (colon ∷ ts) h c = h.10
closing_stops p (_ ∷ ts) h c = absurd c

bracket_stops : (p : ℕ → Bool) (ts : List Token) → p 40 ≡ false → Bracket ts → Stopped p (text_of ts)
bracket_stops p (lpar ∷ ts) h c = h
bracket_stops p _ h c = absurd c

start_digit : (q : Kind) (b : ℕ) → is_digit b ≡ true → start_of q b ≡ begins numeral
start_digit q b h = rw h refl

start_low : (q : Kind) (b : ℕ) → is_lower b ≡ true → start_of q b ≡ begins (low_class q)
start_low q b h = let w = within 97 122 b h in rw (above 48 57 b (omega arith), h) refl

start_high : (q : Kind) (b : ℕ) → is_upper b ≡ true → start_of q b ≡ begins (high_class q)
start_high q b h = let w = within 65 90 b h in rw (above 48 57 b (omega arith), below 97 122 b (omega arith), h) refl

number_token : (n : ℕ) → n < 2 ^ 63 → token_of numeral (decimal n) ≡ Some (digits (pos n))
number_token n h = rw (decimal_value n h, lt-ltb n (2 ^ 63) h) refl

-- bytes that give one token first
abbrev Gives : Kind → Token → List ℕ → List ℕ → ℕ → Type 0
Gives q t bs rest at = (place : ℕ) × (end : ℕ) × (lexed q idle at (bs ++ rest) ≡ before (record { place = place; token = t }) (lexed q idle end rest))

run_token : (q : Kind) (c : Class) (p : ℕ → Bool) (bs : List ℕ) (t : Token) (rest : List ℕ) (at b : ℕ) (xs : List ℕ) → bs ≡ b ∷ xs → start_of q b ≡ begins c → Steady c p → list_all p xs ≡ true → Stopped p rest
    → token_of c bs ≡ Some t → Gives q t bs rest at
run_token q c p bs t rest at b xs is begin steady all stop made =
    (at, (at + 1) + length xs, rw is (run_lexed q c p b xs t rest at begin steady all stop (rw is at made)))

number_by : (q : Kind) (n : ℕ) (ts : List Token) (at b : ℕ) (xs : List ℕ) → decimal n ≡ b ∷ xs → n < 2 ^ 63 → Closing ts → Gives q (digits (pos n)) (decimal n) (text_of ts) at
number_by q n ts at b xs is low c =
    let all : (is_digit b && list_all is_digit xs) ≡ true = rw is at (decimal_all n low) in
    run_token q numeral is_digit (decimal n) (digits (pos n)) (text_of ts) at b xs is (start_digit q b (and_left (is_digit b) (list_all is_digit xs) all)) numeral_steady (and_right (is_digit b) (list_all is_digit xs) all)
    (closing_stops is_digit ts (refl, refl, refl, refl, refl, refl, refl, refl, refl, refl, refl) c) (number_token n low)

-- each token, before what may follow it
number_lexed : (q : Kind) (n : ℕ) (ts : List Token) → n < 2 ^ 63 → Closing ts → Lexes q (digits (pos n)) (text_of ts)
number_lexed q n ts low c at = let f = first_rest (decimal n) (decimal_some n low) in number_by q n ts at f.0 f.1 f.2 low c

word_token : (k : List ℕ) → is_rule_name k ≡ true → token_of small k ≡ Some (word k)
word_token k h = rw h refl

word_lexed : (k : List ℕ) (ts : List Token) → is_rule_name k ≡ true → Closing ts → Lexes Rules (word k) (text_of ts)
word_lexed k ts h c at =
    let f = rule_parts k h in
    run_token Rules small is_name_byte k (word k) (text_of ts) at f.0 f.1 f.2 (start_low Rules f.0 f.3) small_steady f.4
    (closing_stops is_name_byte ts (refl, refl, refl, refl, refl, refl, refl, refl, refl, refl, refl) c) (word_token k h)

cell_token : (k : List ℕ) → str_to_ascii_uppercase k ≡ k → is_cell_name k ≡ true → token_of letters k ≡ Some (cell k)
cell_token k up h = ap sheet_token up ∙ (rw h refl)

cell_word : (xs : List ℕ) → list_all is_cell_byte xs ≡ true → list_all is_word_byte xs ≡ true
cell_word [] h = refl
cell_word (b ∷ xs) h = and_both (is_word_byte b) (list_all is_word_byte xs) (weaker (is_upper b) (is_lower b) (is_digit b) (and_left (is_cell_byte b) (list_all is_cell_byte xs) h)) (cell_word xs (and_right (is_cell_byte b) (list_all is_cell_byte xs) h))
  where
    weaker : (u l d : Bool) → (u || d) ≡ true → ((u || l) || d) ≡ true
    weaker true l d h = refl
    weaker false l d h = or_true l d h

raised_name : (k : List ℕ) (a : ℕ) (xs : List ℕ) → k ≡ a ∷ xs → is_upper a ≡ true → list_all is_cell_byte xs ≡ true → str_to_ascii_uppercase k ≡ k
raised_name k a xs is h all = rw is (cell_raised a xs h all)

cell_lexed : (k : List ℕ) (ts : List Token) → is_cell_name k ≡ true → Closing ts → Lexes Sheet (cell k) (text_of ts)
cell_lexed k ts h c at =
    let f = cell_parts k h in
    run_token Sheet letters is_word_byte k (cell k) (text_of ts) at f.0 f.1 f.2 (start_high Sheet f.0 f.3) letters_steady (cell_word f.1 f.4)
    (closing_stops is_word_byte ts (refl, refl, refl, refl, refl, refl, refl, refl, refl, refl, refl) c) (cell_token k (raised_name k f.0 f.1 f.2 f.3 f.4) h)

func_rules : (f : Func) → token_of capitals (func_name f) ≡ Some (func f)
func_rules functions.Sum = refl
func_rules _ = refl

func_sheet : (f : Func) → token_of letters (func_name f) ≡ Some (func f)
func_sheet functions.Sum = refl
func_sheet _ = refl

func_some : (f : Func) → nat_lt 0 (length (func_name f)) ≡ true
func_some functions.Sum = refl
func_some _ = refl

func_upper : (f : Func) → list_all is_upper (func_name f) ≡ true
func_upper functions.Sum = refl
func_upper _ = refl

func_word : (f : Func) → list_all is_word_byte (func_name f) ≡ true
func_word functions.Sum = refl
func_word _ = refl

func_parts : (f : Func) → (a : ℕ) × (xs : List ℕ) × (func_name f ≡ a ∷ xs) × (is_upper a ≡ true) × (list_all is_upper xs ≡ true) × (list_all is_word_byte xs ≡ true)
func_parts f =
    let (a, xs, is) = first_rest (func_name f) (ltb-true 0 (length (func_name f)) (func_some f)) in
    let upper : (is_upper a && list_all is_upper xs) ≡ true = subst (λ bs. list_all is_upper bs ≡ true) is (func_upper f) in
    let word : (is_word_byte a && list_all is_word_byte xs) ≡ true = subst (λ bs. list_all is_word_byte bs ≡ true) is (func_word f) in
    (a, xs, is, and_left (is_upper a) (list_all is_upper xs) upper, and_right (is_upper a) (list_all is_upper xs) upper, and_right (is_word_byte a) (list_all is_word_byte xs) word)

func_lexed : (q : Kind) (f : Func) (ts : List Token) → Bracket ts → Lexes q (func f) (text_of ts)
func_lexed Rules f ts c at =
    let p = func_parts f in
    run_token Rules capitals is_upper (func_name f) (func f) (text_of ts) at p.0 p.1 p.2 (start_high Rules p.0 p.3) capitals_steady p.4 (bracket_stops is_upper ts refl c) (func_rules f)
func_lexed Sheet f ts c at =
    let p = func_parts f in
    run_token Sheet letters is_word_byte (func_name f) (func f) (text_of ts) at p.0 p.1 p.2 (start_high Sheet p.0 p.3) letters_steady p.5 (bracket_stops is_word_byte ts refl c) (func_sheet f)

-- a text, whose quotes are doubled
abbrev Doubles : Kind → ℕ → List ℕ → List ℕ → List ℕ → Type 0
Doubles q place xs k rest = (bs : List ℕ) (at : ℕ) → (end : ℕ) × (lexed q (run inside place bs) at (xs ++ rest) ≡ lexed q (run inside place (bs ++ xs)) end rest)

doubled_by : (d : Bool) (q : Kind) (place b : ℕ) (k rest : List ℕ) → (b == 34) ≡ d → Doubles q place (doubled k) k rest → Doubles q place ((if d then 34 ∷ 34 ∷ [] else b ∷ []) ++ doubled k) (b ∷ k) rest
doubled_by true q place b k rest is go bs at =
    let h = go ((bs ++ 34 ∷ []) ++ 34 ∷ []) ((at + 1) + 1) in (h.0, h.1 ∙ ap (λ ys. lexed q (run inside place ys) h.0 rest) (simp append_assoc refl))
doubled_by false q place b k rest is go bs at =
    let h = go (bs ++ b ∷ []) (at + 1) in
    (h.0, run_step q inside inside place bs at b (doubled k ++ rest) (ap (λ d. Some (if d then closing else inside)) is) ∙ h.1 ∙ ap (λ ys. lexed q (run inside place ys) h.0 rest) (append_assoc bs (b ∷ []) (doubled k)))

doubled_on : (q : Kind) (place : ℕ) (k rest : List ℕ) → Doubles q place (doubled k) k rest
doubled_on q place [] rest bs at = (at, rw append-nil refl)
doubled_on q place (b ∷ k) rest bs at = doubled_by (b == 34) q place b k rest refl (doubled_on q place k rest) bs at

unpaired_by : (d : Bool) (b : ℕ) (k : List ℕ) → (b == 34) ≡ d → unpaired false (doubled k) ≡ k → unpaired false ((if d then 34 ∷ 34 ∷ [] else b ∷ []) ++ doubled k) ≡ b ∷ k
unpaired_by true b k is h = let e : b ≡ 34 = eqb-true b 34 is in rw (h, e) refl
unpaired_by false b k is h = rw (is, h) refl

unpaired_doubled : (k : List ℕ) → unpaired false (doubled k) ≡ k
unpaired_doubled [] = refl
unpaired_doubled (b ∷ k) = unpaired_by (b == 34) b k refl (unpaired_doubled k)

within_quotes : (xs : List ℕ) → slice_range (34 ∷ (xs ++ 34 ∷ [])) 1 (length (34 ∷ (xs ++ 34 ∷ [])) - 1) ≡ xs
within_quotes xs =
    let n : (suc (length (xs ++ 34 ∷ [])) - 1) - 1 ≡ length xs = simp length-append (omega arith) in
    rw (n, take-append-le (length xs) xs (34 ∷ []) (le_refl (length xs))) (take_all (length xs) xs (le_refl (length xs)))

text_token : (k : List ℕ) → length k ≤ 65536 → token_of closing (34 ∷ (doubled k ++ 34 ∷ [])) ≡ Some (quoted k)
text_token k h =
    let t : quoted_text (34 ∷ (doubled k ++ 34 ∷ [])) ≡ k = ap (λ ys. unpaired false ys) (within_quotes (doubled k)) ∙ unpaired_doubled k in
    ap (λ ys. if nat_le (length ys) 65536 then Some (quoted ys) else None) t ∙ (rw (le-leb (length k) 65536 h) refl)

text_lexed : (q : Kind) (k : List ℕ) (ts : List Token) → length k ≤ 65536 → Closing ts → Lexes q (quoted k) (text_of ts)
text_lexed q k ts low c at =
    let d = doubled_on q at k (34 ∷ text_of ts) (34 ∷ []) (at + 1) in (
      at,
      d.0 + 1,
      (ap (λ ys. lexed q (run inside at (34 ∷ [])) (at + 1) ys) (append_assoc (doubled k) (34 ∷ []) (text_of ts))
          ∙ d.1 ∙ run_ends q closing at (34 ∷ (doubled k ++ 34 ∷ [])) (d.0 + 1) (text_of ts) (stops_going_text (34 ∷ (doubled k ++ 34 ∷ [])) (text_of ts) (closing_stops (λ b. b == 34) ts (refl, refl, refl, refl, refl, refl, refl, refl, refl, refl, refl) c))
          ∙ ap (λ o. emit o at (lexed q idle (d.0 + 1) (text_of ts))) (text_token k low)),
    )
  where
    stops_going_text : (bs rest : List ℕ) → Stopped (λ b. b == 34) rest → Stopped (λ b. is_going (grown_run closing (length bs) b)) rest
    stops_going_text bs [] h = tt
    stops_going_text bs (b ∷ rest) h = rw h refl

-- an operand begins with no sign of a comparison
abbrev FirstByte : List ℕ → Type 0
FirstByte [] = Unit {0}
FirstByte (b ∷ rest) = (b < 60) ⊎ (62 < b)

first_of : (bs rest : List ℕ) (b : ℕ) (xs : List ℕ) → bs ≡ b ∷ xs → (b < 60) ⊎ (62 < b) → FirstByte (bs ++ rest)
first_of bs rest b xs is h = rw is h

first_byte : (q : Kind) (ts : List Token) → AllOfKind q ts → Opening ts → FirstByte (text_of ts)
first_byte q [] k o = tt
first_byte q (digits (pos n) ∷ ts) k o =
    let f = first_rest (decimal n) (decimal_some n k.0) in
    first_of (decimal n) (text_of ts) f.0 f.1 f.2 (first_digit n f.0 f.1 f.2 k.0)
  where
    first_digit : (n b : ℕ) (xs : List ℕ) → decimal n ≡ b ∷ xs → n < 2 ^ 63 → (b < 60) ⊎ (62 < b)
    first_digit n b xs is h = let all : (is_digit b && list_all is_digit xs) ≡ true = rw is at (decimal_all n h) in let w = within 48 57 b (and_left (is_digit b) (list_all is_digit xs) all) in inl (omega arith)
first_byte q (digits (negsuc n) ∷ ts) k o = absurd k.0
first_byte q (quoted t ∷ ts) k o = inl (omega arith)
first_byte Rules (word t ∷ ts) k o = let f = rule_parts t k.0 in let w = within 97 122 f.0 f.3 in first_of t (text_of ts) f.0 f.1 f.2 (inr (omega arith))
first_byte Sheet (word t ∷ ts) k o = absurd k.0
first_byte Rules (cell t ∷ ts) k o = absurd k.0
first_byte Sheet (cell t ∷ ts) k o = let f = cell_parts t k.0 in let w = within 65 90 f.0 f.3 in first_of t (text_of ts) f.0 f.1 f.2 (inr (omega arith))
first_byte q (func f ∷ ts) k o = let p = func_parts f in let w = within 65 90 p.0 p.3 in first_of (func_name f) (text_of ts) p.0 p.1 p.2 (inr (omega arith))
first_byte q (op add ∷ ts) k o = inl (omega arith)
first_byte q (op sub ∷ ts) k o = inl (omega arith)
first_byte q (lpar ∷ ts) k o = inl (omega arith)
first_byte q (_ ∷ ts) k o = absurd o

no_sign_of : (b : ℕ) → (b < 60) ⊎ (62 < b) → ((b == 61) ≡ false) × ((b == 62) ≡ false)
no_sign_of b (inl h) = (ne_eqb b 61 (λ q. omega arith), ne_eqb b 62 (λ q. omega arith))
no_sign_of b (inr h) = (ne_eqb b 61 (λ q. omega arith), ne_eqb b 62 (λ q. omega arith))

less_stops : (rest : List ℕ) → FirstByte rest → Stopped (λ b. is_going (grown_run less 1 b)) rest
less_stops [] h = tt
less_stops (b ∷ rest) h = let n = no_sign_of b h in rw (n.0, n.1) refl

greater_stops : (rest : List ℕ) → FirstByte rest → Stopped (λ b. is_going (grown_run greater 1 b)) rest
greater_stops [] h = tt
greater_stops (b ∷ rest) h = let n = no_sign_of b h in rw n.0 refl

less_full : (rest : List ℕ) → Stopped (λ c. is_going (grown_run less 2 c)) rest
less_full [] = tt
less_full (c ∷ rest) = refl

greater_full : (rest : List ℕ) → Stopped (λ c. is_going (grown_run greater 2 c)) rest
greater_full [] = tt
greater_full (c ∷ rest) = refl

op_lexed : (q : Kind) (o : Op) (ts : List Token) → AllOfKind q ts → Opening ts → Lexes q (op o) (text_of ts)
op_lexed q eq ts k c at = (at, at + 1, refl)
op_lexed q ne ts k c at = (at, (at + 1) + 1, run_ends q less at (60 ∷ 62 ∷ []) ((at + 1) + 1) (text_of ts) (less_full (text_of ts)))
op_lexed q lt ts k c at = (at, at + 1, run_ends q less at (60 ∷ []) (at + 1) (text_of ts) (less_stops (text_of ts) (first_byte q ts k c)))
op_lexed q le ts k c at = (at, (at + 1) + 1, run_ends q less at (60 ∷ 61 ∷ []) ((at + 1) + 1) (text_of ts) (less_full (text_of ts)))
op_lexed q gt ts k c at = (at, at + 1, run_ends q greater at (62 ∷ []) (at + 1) (text_of ts) (greater_stops (text_of ts) (first_byte q ts k c)))
op_lexed q ge ts k c at = (at, (at + 1) + 1, run_ends q greater at (62 ∷ 61 ∷ []) ((at + 1) + 1) (text_of ts) (greater_full (text_of ts)))
op_lexed q join ts k c at = (at, at + 1, refl)
op_lexed q add ts k c at = (at, at + 1, refl)
op_lexed q sub ts k c at = (at, at + 1, refl)
op_lexed q mul ts k c at = (at, at + 1, refl)
op_lexed q div ts k c at = (at + 1, (at + 1) + 1, refl)

token_lexed : (q : Kind) (t : Token) (ts : List Token) → OfKind q t → AllOfKind q ts → Clear t ts → Lexes q t (text_of ts)
token_lexed q (digits (pos n)) ts h k c at = number_lexed q n ts h c at
token_lexed q (digits (negsuc n)) ts h k c at = absurd h
token_lexed q (quoted t) ts h k c at = text_lexed q t ts h c at
token_lexed Rules (word t) ts h k c at = word_lexed t ts h c at
token_lexed Sheet (word t) ts h k c at = absurd h
token_lexed Rules (cell t) ts h k c at = absurd h
token_lexed Sheet (cell t) ts h k c at = cell_lexed t ts h c at
token_lexed q (func f) ts h k c at = func_lexed q f ts c at
token_lexed q (op o) ts h k c at = op_lexed q o ts k c at
token_lexed q lpar ts h k c at = (at, at + 1, refl)
token_lexed q rpar ts h k c at = (at, at + 1, refl)
token_lexed q comma ts h k c at = (at, at + 1, refl)
token_lexed q colon ts h k c at = (at, at + 1, refl)

-- the printed bytes of tokens give these tokens
pub lexes : (q : Kind) (ts : List Token) → AllOfKind q ts → AllClear ts → (at : ℕ) → (ps : List Placed) × (lexed q idle at (text_of ts) ≡ Ok ps) × (tokens_of ps ≡ ts)
lexes q [] k c at = ([], refl, refl)
lexes q (t ∷ ts) k c at =
    let f = token_lexed q t ts k.0 k.1 c.0 at in
    let g = lexes q ts k.1 c.1 f.1 in
    (record { place = f.0; token = t } ∷ g.0, f.2 ∙ ap (λ r. before (record { place = f.0; token = t }) r) g.1, ap (λ us. t ∷ us) g.2)

-- The tokens of a text are of the book's kind.
use Rattle.std.proofs.Common.{ℕ, pos, Bool, true, false, List, [], ◌∷◌, ◌++◌, length, ◌≡◌, ◌+◌, ◌^◌, ◌&&◌, ◌||◌, ◌==◌, Option, Some, None, Result, Ok, Err, if◌then◌else◌, refl, nat_lt, nat_le}
use Rattle.std.specs.Str.{str_to_ascii_uppercase}
use Rattle.std.specs.Str.Parse.{digits_value}
use Rattle.std.proofs.lemmas.Bool.{ltb-true, leb-true}
use Rattle.carte_name.specs.Names.{is_rule_name, is_cell_name, is_digit, is_lower, is_upper, is_letter, is_name_byte}
use Rattle.carte_name.specs.declared.kind.Kind.{Kind}
use Rattle.carte_name.specs.declared.kind.Kind.TheVariants.{Rules, Sheet}
use Rattle.carte_lexer.specs.Tokens.{eq, add, sub, mul, div, join, Func, Token, digits, quoted, word, cell, op, lpar, rpar, comma, colon, Placed, tokens_of}
use Rattle.carte_lexer.specs.Kinds.{OfKind, AllOfKind}
use Rattle.carte_tree.specs.Functions.{func_of}
use Rattle.carte_lexer.specs.Lexer.{Class, numeral, small, capitals, letters, less, greater, inside, closing, Start, blank, single, begins, wrong, is_blank, sign_of, start_of, low_class, high_class, grown_run, going_on, token_of, func_token, quoted_text, Pending, idle, run, before, emit, from_start, from_run, lexed}

abbrev OfRules : Kind → Type 0
OfRules Rules = Unit {0}
OfRules Sheet = ⊥

abbrev OfSheet : Kind → Type 0
OfSheet Rules = ⊥
OfSheet Sheet = Unit {0}

abbrev ClassOf : Kind → Class → Type 0
ClassOf q small = OfRules q
ClassOf q letters = OfSheet q
ClassOf q _ = Unit {0}

abbrev StartOf : Kind → Start → Type 0
StartOf q (single t) = OfKind q t
StartOf q (begins c) = ClassOf q c
StartOf q _ = Unit {0}

pick : (q : Kind) (b : Bool) (x y : Start) → StartOf q x → StartOf q y → StartOf q (if b then x else y)
pick q true x y h k = h
pick q false x y h k = k

low_kind : (q : Kind) → ClassOf q (low_class q)
low_kind Rules = tt
low_kind Sheet = tt

high_kind : (q : Kind) → ClassOf q (high_class q)
high_kind Rules = tt
high_kind Sheet = tt

sign_kind : (q : Kind) (b : ℕ) → StartOf q (sign_of b)
sign_kind q b = pick q (b == 43) (single (op add)) (if b == 45 then single (op sub) else (if b == 42 then single (op mul) else (if b == 47 then single (op div) else (if b == 38 then single (op join) else (if b == 61 then single (op eq) else (if b == 60 then begins less else (if b == 62 then begins greater else (if b == 40 then single lpar else (if b == 41 then single rpar else (if b == 44 then single comma else (if b == 58 then single colon else wrong))))))))))) tt (pick q (b == 45) (single (op sub)) (if b == 42 then single (op mul) else (if b == 47 then single (op div) else (if b == 38 then single (op join) else (if b == 61 then single (op eq) else (if b == 60 then begins less else (if b == 62 then begins greater else (if b == 40 then single lpar else (if b == 41 then single rpar else (if b == 44 then single comma else (if b == 58 then single colon else wrong)))))))))) tt (pick q (b == 42) (single (op mul)) (if b == 47 then single (op div) else (if b == 38 then single (op join) else (if b == 61 then single (op eq) else (if b == 60 then begins less else (if b == 62 then begins greater else (if b == 40 then single lpar else (if b == 41 then single rpar else (if b == 44 then single comma else (if b == 58 then single colon else wrong))))))))) tt (pick q (b == 47) (single (op div)) (if b == 38 then single (op join) else (if b == 61 then single (op eq) else (if b == 60 then begins less else (if b == 62 then begins greater else (if b == 40 then single lpar else (if b == 41 then single rpar else (if b == 44 then single comma else (if b == 58 then single colon else wrong)))))))) tt (pick q (b == 38) (single (op join)) (if b == 61 then single (op eq) else (if b == 60 then begins less else (if b == 62 then begins greater else (if b == 40 then single lpar else (if b == 41 then single rpar else (if b == 44 then single comma else (if b == 58 then single colon else wrong))))))) tt (pick q (b == 61) (single (op eq)) (if b == 60 then begins less else (if b == 62 then begins greater else (if b == 40 then single lpar else (if b == 41 then single rpar else (if b == 44 then single comma else (if b == 58 then single colon else wrong)))))) tt (pick q (b == 60) (begins less) (if b == 62 then begins greater else (if b == 40 then single lpar else (if b == 41 then single rpar else (if b == 44 then single comma else (if b == 58 then single colon else wrong))))) tt (pick q (b == 62) (begins greater) (if b == 40 then single lpar else (if b == 41 then single rpar else (if b == 44 then single comma else (if b == 58 then single colon else wrong)))) tt (pick q (b == 40) (single lpar) (if b == 41 then single rpar else (if b == 44 then single comma else (if b == 58 then single colon else wrong))) tt (pick q (b == 41) (single rpar) (if b == 44 then single comma else (if b == 58 then single colon else wrong)) tt (pick q (b == 44) (single comma) (if b == 58 then single colon else wrong) tt (pick q (b == 58) (single colon) wrong tt tt)))))))))))

start_kind : (q : Kind) (b : ℕ) → StartOf q (start_of q b)
start_kind q b =
    pick q (is_digit b) (begins numeral) (if is_lower b then begins (low_class q) else if is_upper b then begins (high_class q) else if is_blank b then blank else if b == 34 then begins inside else sign_of b) tt
    (pick q (is_lower b) (begins (low_class q)) (if is_upper b then begins (high_class q) else if is_blank b then blank else if b == 34 then begins inside else sign_of b) (low_kind q)
    (pick q (is_upper b) (begins (high_class q)) (if is_blank b then blank else if b == 34 then begins inside else sign_of b) (high_kind q)
    (pick q (is_blank b) blank (if b == 34 then begins inside else sign_of b) tt
    (pick q (b == 34) (begins inside) (sign_of b) tt (sign_kind q b)))))

abbrev TokenOf : Kind → Option Token → Type 0
TokenOf q None = Unit {0}
TokenOf q (Some t) = OfKind q t

numeral_kind : (q : Kind) (b : Bool) (n : ℕ) → nat_lt n (2 ^ 63) ≡ b → TokenOf q (if b then Some (digits (pos n)) else None)
numeral_kind q true n h = ltb-true n (2 ^ 63) h
numeral_kind q false n h = tt

word_kind : (q : Kind) (b : Bool) (bs : List ℕ) → ClassOf q small → is_rule_name bs ≡ b → TokenOf q (if b then Some (word bs) else None)
word_kind Rules true bs c h = h
word_kind Rules false bs c h = tt
word_kind Sheet b bs c h = absurd c

func_kind : (q : Kind) (o : Option Func) → TokenOf q (func_token o)
func_kind q None = tt
func_kind q (Some f) = tt

cell_kind : (q : Kind) (b : Bool) (k : List ℕ) → ClassOf q letters → is_cell_name k ≡ b → TokenOf q (if b then Some (cell k) else func_token (func_of k))
cell_kind Rules b k c h = absurd c
cell_kind Sheet true k c h = h
cell_kind Sheet false k c h = func_kind Sheet (func_of k)

text_kind : (q : Kind) (b : Bool) (k : List ℕ) → nat_le (length k) 65536 ≡ b → TokenOf q (if b then Some (quoted k) else None)
text_kind q true k h = leb-true (length k) 65536 h
text_kind q false k h = tt

token_kind : (q : Kind) (c : Class) (bs : List ℕ) → ClassOf q c → TokenOf q (token_of c bs)
token_kind q numeral bs c = numeral_kind q (nat_lt (digits_value 10 bs) (2 ^ 63)) (digits_value 10 bs) refl
token_kind q small bs c = word_kind q (is_rule_name bs) bs c refl
token_kind q capitals bs c = func_kind q (func_of bs)
token_kind q letters bs c = cell_kind q (is_cell_name (str_to_ascii_uppercase bs)) (str_to_ascii_uppercase bs) c refl
token_kind q less bs c = tt
token_kind q greater bs c = tt
token_kind q inside bs c = tt
token_kind q closing bs c = text_kind q (nat_le (length (quoted_text bs)) 65536) (quoted_text bs) refl

abbrev GrownOf : Kind → Option Class → Type 0
GrownOf q None = Unit {0}
GrownOf q (Some c) = ClassOf q c

going_kind : (q : Kind) (b : Bool) (c : Class) → ClassOf q c → GrownOf q (going_on b c)
going_kind q true c h = h
going_kind q false c h = tt

inside_kind : (q : Kind) (b : Bool) → ClassOf q (if b then closing else inside)
inside_kind q true = tt
inside_kind q false = tt

grown_kind : (q : Kind) (c : Class) (n b : ℕ) → ClassOf q c → GrownOf q (grown_run c n b)
grown_kind q numeral n b h = going_kind q (is_digit b) numeral h
grown_kind q small n b h = going_kind q (is_name_byte b) small h
grown_kind q capitals n b h = going_kind q (is_upper b) capitals h
grown_kind q letters n b h = going_kind q (is_letter b || is_digit b) letters h
grown_kind q less n b h = going_kind q (n == 1 && (b == 61 || b == 62)) less h
grown_kind q greater n b h = going_kind q (n == 1 && b == 61) greater h
grown_kind q inside n b h = inside_kind q (b == 34)
grown_kind q closing n b h = going_kind q (b == 34) inside tt

abbrev OkKind : Kind → Result (List Placed) ℕ → Type 0
OkKind q (Ok ps) = AllOfKind q (tokens_of ps)
OkKind q (Err place) = Unit {0}

abbrev PendingOf : Kind → Pending → Type 0
PendingOf q idle = Unit {0}
PendingOf q (run c place bs) = ClassOf q c

before_kind : (q : Kind) (p : Placed) (later : Result (List Placed) ℕ) → OfKind q p.token → OkKind q later → OkKind q (before p later)
before_kind q p (Ok ps) h k = (h, k)
before_kind q p (Err place) h k = tt

emit_kind : (q : Kind) (o : Option Token) (place : ℕ) (later : Result (List Placed) ℕ) → TokenOf q o → OkKind q later → OkKind q (emit o place later)
emit_kind q None place later h k = tt
emit_kind q (Some t) place later h k = before_kind q (record { place = place; token = t }) later h k

from_start_kind : (q : Kind) (s : Start) (at b : ℕ) (go : Pending → Result (List Placed) ℕ) → StartOf q s → ((p : Pending) → PendingOf q p → OkKind q (go p)) → OkKind q (from_start s at b go)
from_start_kind q blank at b go h k = k idle tt
from_start_kind q (single t) at b go h k = emit_kind q (Some t) at (go idle) h (k idle tt)
from_start_kind q (begins c) at b go h k = k (run c at (b ∷ [])) h
from_start_kind q wrong at b go h k = tt

from_run_kind : (q : Kind) (o : Option Class) (c : Class) (place : ℕ) (bs : List ℕ) (s : Start) (at b : ℕ) (go : Pending → Result (List Placed) ℕ) → GrownOf q o → ClassOf q c → StartOf q s
    → ((p : Pending) → PendingOf q p → OkKind q (go p)) → OkKind q (from_run o c place bs s at b go)
from_run_kind q (Some d) c place bs s at b go g h st k = k (run d place (bs ++ b ∷ [])) g
from_run_kind q None c place bs s at b go g h st k = emit_kind q (token_of c bs) place (from_start s at b go) (token_kind q c bs h) (from_start_kind q s at b go st k)

lexed_on : (q : Kind) (bytes : List ℕ) (p : Pending) (at : ℕ) → PendingOf q p → OkKind q (lexed q p at bytes)
lexed_on q [] idle at h = tt
lexed_on q [] (run c place bs) at h = emit_kind q (token_of c bs) place (Ok []) (token_kind q c bs h) tt
lexed_on q (b ∷ rest) idle at h = from_start_kind q (start_of q b) at b (λ p. lexed q p (at + 1) rest) (start_kind q b) (λ p k. lexed_on q rest p (at + 1) k)
lexed_on q (b ∷ rest) (run c place bs) at h =
    from_run_kind q (grown_run c (length bs) b) c place bs (start_of q b) at b (λ p. lexed q p (at + 1) rest) (grown_kind q c (length bs) b h) h (start_kind q b) (λ p k. lexed_on q rest p (at + 1) k)

pub lexed_kind : (q : Kind) (bytes : List ℕ) (ps : List Placed) → lexed q idle 0 bytes ≡ Ok ps → AllOfKind q (tokens_of ps)
lexed_kind q bytes ps h = rw h at (lexed_on q bytes idle 0 tt)

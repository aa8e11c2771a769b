-- The tokens of a text.
use Rattle.std.specs.Prelude.{ℕ, pos, Bool, true, false, List, [], ◌∷◌, ◌++◌, length, slice_index, slice_range, nat_lt, nat_le, codes, ◌==◌, ◌&&◌, ◌||◌, ◌+◌, ◌-◌, ◌^◌, Option, Some, None, Result, Ok, Err, if◌then◌else◌}
use Rattle.std.specs.Fmt.{signed_decimal}
use Rattle.std.specs.Str.{str_to_ascii_uppercase}
use Rattle.std.specs.Str.Parse.{digits_value}
use Rattle.carte_name.specs.Names.{is_digit, is_lower, is_upper, is_letter, is_name_byte, is_rule_name, is_cell_name}
use Rattle.carte_name.specs.declared.kind.Kind.{Kind}
use Rattle.carte_name.specs.declared.kind.Kind.TheVariants.{Rules, Sheet}
use Rattle.carte_lexer.specs.Tokens.{Op, eq, ne, lt, le, gt, ge, join, add, sub, mul, div, Func, Token, digits, quoted, word, cell, func, op, lpar, rpar, comma, colon, sign_token, Placed}
use Rattle.carte_tree.specs.Functions.{func_name, func_of}
use Rattle.carte_tree.specs.Printed.{op_bytes, text_bytes}
pub use Rattle.carte_lexer.specs.declared.tokens.Class.{Class}
pub use Rattle.carte_lexer.specs.declared.tokens.Class.TheVariants.{Digits as numeral, Word as small, Capitals as capitals, Letters as letters, Less as less, Greater as greater, Inside as inside, Quote as closing}
use Rattle.carte_lexer.specs.declared.tokens.Start.{Start as CodeStart}
use Rattle.carte_lexer.specs.declared.tokens.Start.TheVariants as code

-- what a byte begins where no token is pending
pub data Start : Type 0 where
  blank : Start
  single : Token → Start
  begins : Class → Start
  wrong : Start

-- the same, as the code holds it
abbrev pub start_by : CodeStart → Start
start_by code.Blank = blank
start_by (code.Sign s) = single (sign_token s)
start_by (code.Run c) = begins c
start_by code.Wrong = wrong

abbrev pub is_blank : ℕ → Bool
is_blank b = ((b == 32 || b == 9) || b == 10) || b == 13

-- a byte that is a token alone, or begins one
abbrev pub sign_of : ℕ → Start
sign_of b =
    if b == 43 then single (op add)
    else if b == 45 then single (op sub)
    else if b == 42 then single (op mul)
    else if b == 47 then single (op div)
    else if b == 38 then single (op join)
    else if b == 61 then single (op eq)
    else if b == 60 then begins less
    else if b == 62 then begins greater
    else if b == 40 then single lpar
    else if b == 41 then single rpar
    else if b == 44 then single comma
    else if b == 58 then single colon
    else wrong

abbrev pub low_class : Kind → Class
low_class Rules = small
low_class Sheet = letters

abbrev pub high_class : Kind → Class
high_class Rules = capitals
high_class Sheet = letters

-- what a byte between tokens begins
abbrev pub start_of : Kind → ℕ → Start
start_of q b =
    if is_digit b then begins numeral
    else if is_lower b then begins (low_class q)
    else if is_upper b then begins (high_class q)
    else if is_blank b then blank
    else if b == 34 then begins inside
    else sign_of b

abbrev pub going_on : Bool → Class → Option Class
going_on true c = Some c
going_on false c = None

-- how a run of so many bytes goes on with a byte, if it does
abbrev pub grown_run : Class → ℕ → ℕ → Option Class
grown_run numeral n b = going_on (is_digit b) numeral
grown_run small n b = going_on (is_name_byte b) small
grown_run capitals n b = going_on (is_upper b) capitals
grown_run letters n b = going_on (is_letter b || is_digit b) letters
grown_run less n b = going_on (n == 1 && (b == 61 || b == 62)) less
grown_run greater n b = going_on (n == 1 && b == 61) greater
grown_run inside n b = Some (if b == 34 then closing else inside)
grown_run closing n b = going_on (b == 34) inside

-- the text between quotes, where a quote behind a quote is left out. paired: whether one stands before it
abbrev pub unpaired : Bool → List ℕ → List ℕ
unpaired paired [] = []
unpaired paired (b ∷ bs) = if b == 34 then (if paired then unpaired false bs else b ∷ unpaired true bs) else b ∷ unpaired false bs

abbrev pub quoted_text : List ℕ → List ℕ
quoted_text bs = unpaired false (slice_range bs 1 (length bs - 1))

abbrev pub func_token : Option Func → Option Token
func_token None = None
func_token (Some f) = Some (func f)

abbrev pub sheet_token : List ℕ → Option Token
sheet_token k = if is_cell_name k then Some (cell k) else func_token (func_of k)

abbrev pub less_op : List ℕ → Op
less_op bs = if length bs == 1 then lt else (if slice_index bs 1 == 61 then le else ne)

abbrev pub greater_op : List ℕ → Op
greater_op bs = if length bs == 1 then gt else ge

-- the token that a whole run is
abbrev pub token_of : Class → List ℕ → Option Token
token_of numeral bs = if nat_lt (digits_value 10 bs) (2 ^ 63) then Some (digits (pos (digits_value 10 bs))) else None
token_of small bs = if is_rule_name bs then Some (word bs) else None
token_of capitals bs = func_token (func_of bs)
token_of letters bs = sheet_token (str_to_ascii_uppercase bs)
token_of less bs = Some (op (less_op bs))
token_of greater bs = Some (op (greater_op bs))
token_of inside bs = None
token_of closing bs = if nat_le (length (quoted_text bs)) 65536 then Some (quoted (quoted_text bs)) else None

-- the prefix of a token, if one is pending
pub data Pending : Type 0 where
  idle : Pending
  run : Class → ℕ → List ℕ → Pending

abbrev pub before : Placed → Result (List Placed) ℕ → Result (List Placed) ℕ
before p (Ok ps) = Ok (p ∷ ps)
before p (Err place) = Err place

abbrev pub emit : Option Token → ℕ → Result (List Placed) ℕ → Result (List Placed) ℕ
emit None place later = Err place
emit (Some t) place later = before (record { place = place; token = t }) later

abbrev pub from_start : Start → ℕ → ℕ → (Pending → Result (List Placed) ℕ) → Result (List Placed) ℕ
from_start blank at b go = go idle
from_start (single t) at b go = emit (Some t) at (go idle)
from_start (begins c) at b go = go (run c at (b ∷ []))
from_start wrong at b go = Err at

-- a run goes on, or it is a token and the byte begins anew
abbrev pub from_run : Option Class → Class → ℕ → List ℕ → Start → ℕ → ℕ → (Pending → Result (List Placed) ℕ) → Result (List Placed) ℕ
from_run (Some d) c place bs s at b go = go (run d place (bs ++ b ∷ []))
from_run None c place bs s at b go = emit (token_of c bs) place (from_start s at b go)

-- the tokens of the bytes from a place on, behind the prefix of a token; or the place of the first bad one
abbrev pub lexed : Kind → Pending → ℕ → List ℕ → Result (List Placed) ℕ
lexed q idle at [] = Ok []
lexed q (run c place bs) at [] = emit (token_of c bs) place (Ok [])
lexed q idle at (b ∷ rest) = from_start (start_of q b) at b (λ p. lexed q p (at + 1) rest)
lexed q (run c place bs) at (b ∷ rest) = from_run (grown_run c (length bs) b) c place bs (start_of q b) at b (λ p. lexed q p (at + 1) rest)

-- what is printed
abbrev pub token_bytes : Token → List ℕ
token_bytes (digits n) = signed_decimal n
token_bytes (quoted k) = text_bytes k
token_bytes (word k) = k
token_bytes (cell k) = k
token_bytes (func f) = func_name f
token_bytes (op o) = op_bytes o
token_bytes lpar = codes "("
token_bytes rpar = codes ")"
token_bytes comma = codes ","
token_bytes colon = codes ":"

abbrev pub text_of : List Token → List ℕ
text_of [] = []
text_of (t ∷ ts) = token_bytes t ++ text_of ts

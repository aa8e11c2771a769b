-- The printed form of a formula, as bytes.
use Rattle.std.specs.Prelude.{ℕ, zero, suc, Bool, true, false, List, [], ◌∷◌, ◌++◌, codes, nat_lt, ◌==◌, if◌then◌else◌}
use Rattle.std.specs.Fmt.{signed_decimal}
use Rattle.carte_tree.specs.Tree.{Op, eq, ne, lt, le, gt, ge, join, add, sub, mul, div, Func, Level, rank, Tree, number, text, ref, neg, chain, call, Steps, no_step, step, Args, no_arg, arg, Arg, one, cells, first_corner, last_corner}
use Rattle.carte_tree.specs.Functions.{func_name}

abbrev pub op_bytes : Op → List ℕ
op_bytes eq = codes "="
op_bytes ne = codes "<>"
op_bytes lt = codes "<"
op_bytes le = codes "<="
op_bytes gt = codes ">"
op_bytes ge = codes ">="
op_bytes join = codes "&"
op_bytes add = codes "+"
op_bytes sub = codes "-"
op_bytes mul = codes "*"
op_bytes div = codes " /"

abbrev pub paired_quote : ℕ → List ℕ
paired_quote b = if b == 34 then codes "\"\"" else b ∷ []

abbrev pub doubled : List ℕ → List ℕ
doubled [] = []
doubled (b ∷ k) = paired_quote b ++ doubled k

abbrev pub text_bytes : List ℕ → List ℕ
text_bytes k = 34 ∷ (doubled k ++ 34 ∷ [])

-- whether a formula may stand without a bracket where operators of ranks below n may stand
abbrev pub tight : ℕ → Tree → Bool
tight n (chain l e ss) = nat_lt (rank l) n
tight n _ = true

abbrev pub in_brackets : Bool → List ℕ → List ℕ
in_brackets true bs = bs
in_brackets false bs = codes "(" ++ (bs ++ codes ")")

abbrev mutual
  pub printed : Tree → List ℕ
  printed (number n) = signed_decimal n
  printed (text k) = text_bytes k
  printed (ref k) = k
  printed (neg e) = codes "-" ++ in_brackets (tight 0 e) (printed e)
  printed (chain l e ss) = in_brackets (tight (rank l) e) (printed e) ++ steps_printed l ss
  printed (call f xs) = func_name f ++ (codes "(" ++ (args_printed xs ++ codes ")"))

  pub steps_printed : Level → Steps → List ℕ
  steps_printed l no_step = []
  steps_printed l (step o e ss) = (op_bytes o ++ in_brackets (tight (rank l) e) (printed e)) ++ steps_printed l ss

  -- arguments with commas between them, and behind others
  pub args_printed : Args → List ℕ
  args_printed no_arg = []
  args_printed (arg x xs) = arg_printed x ++ later_printed xs

  pub later_printed : Args → List ℕ
  later_printed no_arg = []
  later_printed (arg x xs) = (codes "," ++ arg_printed x) ++ later_printed xs

  pub arg_printed : Arg → List ℕ
  arg_printed (one e) = printed e
  arg_printed (cells a) = first_corner a ++ (codes ":" ++ last_corner a)

-- the arguments from a place on
abbrev pub from_printed : ℕ → Args → List ℕ
from_printed zero xs = args_printed xs
from_printed (suc n) xs = later_printed xs

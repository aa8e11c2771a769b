-- The printed form of a formula, as tokens.
use Rattle.std.specs.Prelude.{ℕ, Bool, true, false, List, [], ◌∷◌, ◌++◌, slice_index}
use Rattle.carte_name.specs.Names.{is_upper}
use Rattle.carte_tree.specs.Tree.{first_corner, last_corner, rank, Tree, number, text, ref, neg, chain, call, Steps, no_step, step, Args, no_arg, arg, Arg, one, cells}
use Rattle.carte_formula.specs.Tokens.{sub, Level, Token, digits, quoted, word, cell, func, op, lpar, rpar, comma, colon}
use Rattle.carte_tree.specs.Printed.{tight}

-- a cell's name begins with an upper-case letter, a rule's with a lower-case one
abbrev pub name_by : Bool → List ℕ → Token
name_by true k = cell k
name_by false k = word k

abbrev pub name_token : List ℕ → Token
name_token k = name_by (is_upper (slice_index k 0)) k

abbrev pub bracketed : Bool → List Token → List Token
bracketed true ts = ts
bracketed false ts = lpar ∷ (ts ++ rpar ∷ [])

abbrev mutual
  pub shown : Tree → List Token
  shown (number n) = digits n ∷ []
  shown (text k) = quoted k ∷ []
  shown (ref k) = name_token k ∷ []
  shown (neg e) = op sub ∷ bracketed (tight 0 e) (shown e)
  shown (chain l e ss) = bracketed (tight (rank l) e) (shown e) ++ steps_shown l ss
  shown (call f xs) = func f ∷ lpar ∷ (args_shown xs ++ rpar ∷ [])

  pub steps_shown : Level → Steps → List Token
  steps_shown l no_step = []
  steps_shown l (step o e ss) = op o ∷ (bracketed (tight (rank l) e) (shown e) ++ steps_shown l ss)

  pub args_shown : Args → List Token
  args_shown no_arg = []
  args_shown (arg x xs) = arg_shown x ++ later_shown xs

  pub later_shown : Args → List Token
  later_shown no_arg = []
  later_shown (arg x xs) = comma ∷ (arg_shown x ++ later_shown xs)

  pub arg_shown : Arg → List Token
  arg_shown (one e) = shown e
  arg_shown (cells a) = cell (first_corner a) ∷ colon ∷ cell (last_corner a) ∷ []

abbrev pub held : ℕ → Tree → List Token
held n e = bracketed (tight n e) (shown e)

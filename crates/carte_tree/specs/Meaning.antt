-- What a formula asks for, and what it gives.
use Rattle.std.specs.Prelude.{ℕ, Bool, true, false, List, [], ◌∷◌, ◌++◌, Result, Ok, Err}
use Rattle.carte_name.specs.declared.kind.Kind.{Kind}
use Rattle.carte_value.specs.declared.value.Value.{Value}
use Rattle.carte_value.specs.declared.value.Value.TheVariants.{Number, Text}
use Rattle.carte_value.specs.Truths.{Truth}
use Rattle.carte_value.specs.Asks.{Asks, done, ask, and_then, run, asked, firsts}
use Rattle.carte_tree.specs.Tree.{Tree, number, text, ref, neg, chain, call, Steps, no_step, step, Args, no_arg, arg, Arg, one, cells}
use Rattle.carte_tree.specs.declared.expr.Func.TheVariants as f
use Rattle.carte_tree.specs.Applied.{condition, negated, applied}
use Rattle.carte_tree.specs.Functions.{called}
use Rattle.carte_value.specs.Areas.{cells_of}
use Rattle.carte_tree.specs.Found.{name_in, names_in}
use Rattle.carte_tree.specs.Texts.{joined}

-- the values of names, in order
abbrev pub asks_all : List (List ℕ) → Asks (List Value)
asks_all [] = done []
asks_all (k ∷ ks) = ask k (λ v. and_then (asks_all ks) (λ vs. done (v ∷ vs)))

-- only one of two branches
abbrev pub branched : Result Bool Value → Asks Value → Asks Value → Asks Value
branched (Ok true) a b = a
branched (Ok false) a b = b
branched (Err v) a b = done v

abbrev pub looked_up : Result (List ℕ) Value → Asks Value
looked_up (Ok k) = ask k (λ v. done v)
looked_up (Err v) = done v

abbrev pub gathered : Result (List (List ℕ)) Value → Asks Value
gathered (Ok ks) = and_then (asks_all ks) (λ vs. done (joined vs))
gathered (Err v) = done v

-- arguments from left to right, ranges row by row
abbrev mutual
  pub asks : Kind → Tree → Asks Value
  asks kind (number n) = done (Number n)
  asks kind (text t) = done (Text t)
  asks kind (ref k) = ask k (λ v. done v)
  asks kind (neg e) = and_then (asks kind e) (λ v. done (negated (v ∷ [])))
  asks kind (chain level e ss) = and_then (asks kind e) (λ v. asks_steps kind v ss)
  asks kind (call f.If (arg (one c) (arg (one a) (arg (one b) no_arg)))) = and_then (asks kind c) (λ v. branched (condition v) (asks kind a) (asks kind b))
  asks kind (call f.Indirect (arg (one e) no_arg)) = and_then (asks kind e) (λ v. looked_up (name_in kind v))
  asks kind (call f.Gather (arg (one e) no_arg)) = and_then (asks kind e) (λ v. gathered (names_in kind v))
  asks kind (call func xs) = and_then (asks_args kind xs) (λ vs. done (called func vs))

  pub asks_steps : Kind → Value → Steps → Asks Value
  asks_steps kind v no_step = done v
  asks_steps kind v (step op e ss) = and_then (asks kind e) (λ w. asks_steps kind (applied op (v ∷ w ∷ [])) ss)

  pub asks_args : Kind → Args → Asks (List Value)
  asks_args kind no_arg = done []
  asks_args kind (arg x xs) = and_then (asks_arg kind x) (λ us. and_then (asks_args kind xs) (λ vs. done (us ++ vs)))

  pub asks_arg : Kind → Arg → Asks (List Value)
  asks_arg kind (one e) = and_then (asks kind e) (λ v. done (v ∷ []))
  asks_arg kind (cells a) = asks_all (cells_of a)

-- the value over a truth, or the first name that the formula asks for and that has none
abbrev pub eval : Kind → Truth → Tree → Result Value (List ℕ)
eval kind t e = run t (asks kind e)

-- the names that the formula looks up, each at its first look-up
abbrev pub fetched : Kind → Truth → Tree → List (List ℕ)
fetched kind t e = firsts (asked t (asks kind e))

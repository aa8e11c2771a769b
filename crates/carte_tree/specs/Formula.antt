-- Trees that are formulas, and what they refer to.
use Rattle.std.specs.Prelude.{ℕ, ℤ, pos, negsuc, Bool, true, false, List, [], ◌∷◌, ◌++◌, length, ◌≡◌, ◌≤◌, ◌<◌, ◌+◌, ◌^◌, ◌&&◌, IsTrue}
use Rattle.carte_value.specs.Areas.{IsArea, cells_of}
use Rattle.carte_name.specs.Kinds.{is_name_of}
use Rattle.carte_name.specs.declared.kind.Kind.{Kind}
use Rattle.carte_name.specs.declared.kind.Kind.TheVariants.{Rules, Sheet}
use Rattle.carte_value.specs.Asks.{firsts}
use Rattle.carte_tree.specs.Tree.{Level, level_of, Func, Tree, number, text, ref, neg, chain, call, Steps, no_step, step, Args, no_arg, arg, Arg, one, cells, Arity, many, between, arity, takes_ranges}
use Rattle.carte_tree.specs.declared.expr.Func.TheVariants as functions

-- a number of a formula isn't negative
abbrev pub IsWhole : ℤ → Type 0
IsWhole (pos n) = n < 2 ^ 63
IsWhole (negsuc n) = ⊥

-- a call in a tree has as many arguments as it may have at most, or at least one
abbrev pub IsCount : Arity → ℕ → Type 0
IsCount many n = 1 ≤ n
IsCount (between a b) n = n ≡ b

abbrev pub args_count : Args → ℕ
args_count no_arg = 0
args_count (arg x xs) = args_count xs + 1

abbrev pub HasStep : Steps → Type 0
HasStep no_step = ⊥
HasStep (step o e ss) = Unit {0}

abbrev mutual
  -- numbers, levels, arguments and ranges are as reading makes them
  pub IsExpr : Tree → Type 0
  IsExpr (number n) = IsWhole n
  IsExpr (text k) = length k ≤ 65536
  IsExpr (ref k) = Unit {0}
  IsExpr (neg e) = IsExpr e
  IsExpr (chain l e ss) = IsExpr e × AreSteps l ss × HasStep ss
  IsExpr (call f xs) = IsCount (arity f) (args_count xs) × AreArgs f xs

  pub AreSteps : Level → Steps → Type 0
  AreSteps l no_step = Unit {0}
  AreSteps l (step o e ss) = (level_of o ≡ l) × IsExpr e × AreSteps l ss

  pub AreArgs : Func → Args → Type 0
  AreArgs f no_arg = Unit {0}
  AreArgs f (arg x xs) = IsArg f x × AreArgs f xs

  pub IsArg : Func → Arg → Type 0
  IsArg f (one e) = IsExpr e
  IsArg f (cells a) = (takes_ranges f ≡ true) × IsArea a

-- they are steps of some chain
abbrev pub AreChainSteps : Steps → Type 0
AreChainSteps ss = (l : Level) × AreSteps l ss

-- they are arguments of some function
abbrev pub AreCallArgs : Args → Type 0
AreCallArgs xs = (f : Func) × AreArgs f xs

abbrev pub IsCallArg : Arg → Type 0
IsCallArg x = (f : Func) × IsArg f x

-- ranges stand in sheets alone
abbrev pub has_ranges : Kind → Bool
has_ranges Rules = false
has_ranges Sheet = true

abbrev mutual
  -- each reference is a name of the kind
  pub HasNames : Kind → Tree → Type 0
  HasNames q (number n) = Unit {0}
  HasNames q (text k) = Unit {0}
  HasNames q (ref k) = IsTrue (is_name_of q k)
  HasNames q (neg e) = HasNames q e
  HasNames q (chain l e ss) = HasNames q e × StepsNames q ss
  HasNames q (call f xs) = ArgsNames q xs

  pub StepsNames : Kind → Steps → Type 0
  StepsNames q no_step = Unit {0}
  StepsNames q (step o e ss) = HasNames q e × StepsNames q ss

  pub ArgsNames : Kind → Args → Type 0
  ArgsNames q no_arg = Unit {0}
  ArgsNames q (arg x xs) = ArgNames q x × ArgsNames q xs

  pub ArgNames : Kind → Arg → Type 0
  ArgNames q (one e) = HasNames q e
  ArgNames q (cells a) = IsTrue (has_ranges q)

abbrev mutual
  -- the references in the order in which they are written, ranges spelt out
  pub mentions : Tree → List (List ℕ)
  mentions (number n) = []
  mentions (text k) = []
  mentions (ref k) = k ∷ []
  mentions (neg e) = mentions e
  mentions (chain l e ss) = mentions e ++ steps_mentions ss
  mentions (call f xs) = args_mentions xs

  pub steps_mentions : Steps → List (List ℕ)
  steps_mentions no_step = []
  steps_mentions (step o e ss) = mentions e ++ steps_mentions ss

  pub args_mentions : Args → List (List ℕ)
  args_mentions no_arg = []
  args_mentions (arg x xs) = arg_mentions x ++ args_mentions xs

  pub arg_mentions : Arg → List (List ℕ)
  arg_mentions (one e) = mentions e
  arg_mentions (cells a) = cells_of a

-- each of them once, at its first place
abbrev pub refs_of : Tree → List (List ℕ)
refs_of e = firsts (mentions e)

-- no reference and no range
abbrev mutual
  pub is_free : Tree → Bool
  is_free (number n) = true
  is_free (text k) = true
  is_free (ref k) = false
  is_free (neg e) = is_free e
  is_free (chain l e ss) = is_free e && steps_free ss
  is_free (call f xs) = args_free xs

  pub steps_free : Steps → Bool
  steps_free no_step = true
  steps_free (step o e ss) = is_free e && steps_free ss

  pub args_free : Args → Bool
  args_free no_arg = true
  args_free (arg x xs) = arg_free x && args_free xs

  pub arg_free : Arg → Bool
  arg_free (one e) = is_free e
  arg_free (cells a) = false

-- what a function asks of its arguments where the formula is static: all but the first of IF are free
pub data Rule : Type 0 where
  any : Rule
  branches : Rule
  never : Rule

abbrev pub rule_of : Func → Rule
rule_of functions.If = branches
rule_of functions.Indirect = never
rule_of functions.Gather = never
rule_of _ = any

abbrev pub branches_free : Args → Bool
branches_free no_arg = true
branches_free (arg x xs) = args_free xs

abbrev pub args_allowed : Rule → Args → Bool
args_allowed never xs = false
args_allowed any xs = true
args_allowed branches xs = branches_free xs

abbrev mutual
  -- no reference or range stands in a branch of an IF, and neither INDIRECT nor GATHER occurs
  pub is_static_tree : Tree → Bool
  is_static_tree (number n) = true
  is_static_tree (text k) = true
  is_static_tree (ref k) = true
  is_static_tree (neg e) = is_static_tree e
  is_static_tree (chain l e ss) = is_static_tree e && steps_static ss
  is_static_tree (call f xs) = args_allowed (rule_of f) xs && args_static xs

  pub steps_static : Steps → Bool
  steps_static no_step = true
  steps_static (step o e ss) = is_static_tree e && steps_static ss

  pub args_static : Args → Bool
  args_static no_arg = true
  args_static (arg x xs) = arg_static x && args_static xs

  pub arg_static : Arg → Bool
  arg_static (one e) = is_static_tree e
  arg_static (cells a) = true

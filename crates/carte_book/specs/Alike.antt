-- That a tree is a formula, and has names of a kind, is so in one way only; what a type keeps must be such a fact.
use Rattle.std.specs.Prelude.{ℕ, ℤ, pos, negsuc, Bool, true, ◌≡◌}
use Rattle.std.specs.Coded.{Coded-set, coded_ℕ, coded_bool, ×_prop, Unit-prop, le_prop}
use Rattle.carte_name.specs.Places.{IsPlace}
use Rattle.carte_value.specs.Areas.{IsArea}
use Rattle.carte_name.specs.Kinds.{is_name_of}
use Rattle.carte_value.specs.declared.area.Area.{Area}
use Rattle.carte_name.specs.declared.kind.Kind.{Kind}
use Rattle.carte_tree.specs.Tree.{level_of, Tree, number, text, ref, neg, chain, call, Steps, no_step, step, Args, no_arg, arg, Arg, one, cells, Arity, many, between, arity, takes_ranges}
use Rattle.carte_tree.specs.Formula.{IsWhole, IsCount, args_count, HasStep, IsExpr, AreSteps, AreArgs, IsArg, HasNames, StepsNames, ArgsNames, ArgNames, has_ranges}
use Rattle.carte_tree.specs.declared.expr.Func.{Func}
use Rattle.carte_tree.specs.declared.expr.Level.{Level}
use Rattle.carte_tree.specs.contracts.expr.Level as levels

none_alike : IsProp ⊥
none_alike x y = absurd x

pub truth_alike : (b : Bool) → IsProp (b ≡ true)
truth_alike b = Coded-set coded_bool b true

place_alike : (c r : ℕ) → IsProp (IsPlace c r)
place_alike c r x y i = record {
  first_column = le_prop x.first_column y.first_column i;
  last_column = le_prop x.last_column y.last_column i;
  first_row = le_prop x.first_row y.first_row i;
  last_row = le_prop x.last_row y.last_row i;
}

area_alike : (a : Area) → IsProp (IsArea a)
area_alike a x y i = record {
  first = place_alike a.left a.top x.first y.first i;
  last = place_alike a.right a.bottom x.last y.last i;
  across = le_prop x.across y.across i;
  down = le_prop x.down y.down i;
}

whole_alike : (n : ℤ) → IsProp (IsWhole n)
whole_alike (pos n) = le_prop
whole_alike (negsuc n) = none_alike

count_alike : (a : Arity) (n : ℕ) → IsProp (IsCount a n)
count_alike many n = le_prop
count_alike (between a b) n = Coded-set coded_ℕ n b

step_alike : (ss : Steps) → IsProp (HasStep ss)
step_alike no_step = none_alike
step_alike (step o e ss) = Unit-prop

mutual
  pub expr_alike : (e : Tree) → IsProp (IsExpr e)
  expr_alike (number n) = whole_alike n
  expr_alike (text k) = le_prop
  expr_alike (ref k) = Unit-prop
  expr_alike (neg e) = expr_alike e
  expr_alike (chain l e ss) = λ x y i. (expr_alike e x.0 y.0 i, steps_alike l ss x.1 y.1 i, step_alike ss x.2 y.2 i)
  expr_alike (call f xs) = ×_prop (count_alike (arity f) (args_count xs)) (args_alike f xs)

  steps_alike : (l : Level) (ss : Steps) → IsProp (AreSteps l ss)
  steps_alike l no_step = Unit-prop
  steps_alike l (step o e ss) = λ x y i. (Coded-set (levels.the_row).coded (level_of o) l x.0 y.0 i, expr_alike e x.1 y.1 i, steps_alike l ss x.2 y.2 i)

  args_alike : (f : Func) (xs : Args) → IsProp (AreArgs f xs)
  args_alike f no_arg = Unit-prop
  args_alike f (arg x xs) = ×_prop (arg_alike f x) (args_alike f xs)

  arg_alike : (f : Func) (x : Arg) → IsProp (IsArg f x)
  arg_alike f (one e) = expr_alike e
  arg_alike f (cells a) = ×_prop (truth_alike (takes_ranges f)) (area_alike a)

mutual
  pub names_alike : (q : Kind) (e : Tree) → IsProp (HasNames q e)
  names_alike q (number n) = Unit-prop
  names_alike q (text k) = Unit-prop
  names_alike q (ref k) = truth_alike (is_name_of q k)
  names_alike q (neg e) = names_alike q e
  names_alike q (chain l e ss) = ×_prop (names_alike q e) (steps_names_alike q ss)
  names_alike q (call f xs) = args_names_alike q xs

  steps_names_alike : (q : Kind) (ss : Steps) → IsProp (StepsNames q ss)
  steps_names_alike q no_step = Unit-prop
  steps_names_alike q (step o e ss) = ×_prop (names_alike q e) (steps_names_alike q ss)

  args_names_alike : (q : Kind) (xs : Args) → IsProp (ArgsNames q xs)
  args_names_alike q no_arg = Unit-prop
  args_names_alike q (arg x xs) = ×_prop (arg_names_alike q x) (args_names_alike q xs)

  arg_names_alike : (q : Kind) (x : Arg) → IsProp (ArgNames q x)
  arg_names_alike q (one e) = names_alike q e
  arg_names_alike q (cells a) = truth_alike (has_ranges q)

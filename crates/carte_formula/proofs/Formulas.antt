-- What a text spells is a formula, with names of the book's kind.
use Rattle.std.proofs.Common.{ℕ, ℤ, pos, negsuc, Bool, true, false, List, [], ◌∷◌, ◌++◌, length, ◌≡◌, ◌≤◌, ◌==◌, IsTrue, refl, arith, length-append}
use Rattle.std.proofs.lemmas.Bool.{eqb-true, eqb-false}
use Rattle.carte_name.specs.declared.kind.Kind.{Kind}
use Rattle.carte_name.specs.declared.kind.Kind.TheVariants.{Rules, Sheet}
use Rattle.carte_value.specs.Areas.{area_of}
use Rattle.carte_tree.specs.Tree.{Tree, number, ref, Arg, one, cells, Term, steps_of, args_of, arity, takes_ranges, is_if, filled}
use Rattle.carte_formula.specs.Tokens.{Level, Func, Token, digits, word, cell, op, rpar, comma, colon}
use Rattle.carte_tree.specs.declared.expr.Func.TheVariants as functions
use Rattle.carte_formula.specs.Grammar.{Counts, Spells, unary, single, chained, Repeats, none, more, Unary, primary, negated, posited, Primary, a_number, a_text, a_word, a_cell, a_call, a_group, Argument, formula, range, Arguments, last, next}
use Rattle.carte_lexer.specs.Kinds.{OfKind, AllOfKind}
use Rattle.carte_tree.specs.Formula.{IsWhole, IsCount, args_count, IsExpr, AreSteps, AreArgs, IsArg, HasNames, StepsNames, ArgsNames, ArgNames, has_ranges}
use Rattle.carte_formula.proofs.Again.{kind_both, Filled}
use Rattle.carte_value.proofs.Rectangles.{area_within}

number_whole : (q : Kind) (n : ℤ) → OfKind q (digits n) → IsWhole n
number_whole q (pos n) h = h
number_whole q (negsuc n) h = h

count_is : (xs : List Arg) → args_count (args_of xs) ≡ length xs
count_is [] = refl
count_is (x ∷ xs) = let h = count_is xs in omega arith

some_args : {f : Func} {ts : List Token} {xs : List Arg} → Arguments f ts xs → 1 ≤ length xs
some_args (last x) = omega arith
some_args (next x xs) = omega arith

-- all arguments are there, the third one of IF filled in
count_filled : (f : Func) (b : Bool) (xs : List Arg) → (length xs == 2) ≡ b → 1 ≤ length xs → Counts (arity f) (length xs) → IsCount (arity f) (length (Filled f (is_if f) b xs))
count_filled functions.If true xs is some c = let h : length xs ≡ 2 = eqb-true (length xs) 2 is in simp length-append (omega arith)
count_filled functions.If false xs is some c = let h : length xs ≡ 2 → ⊥ = eqb-false (length xs) 2 is in let a = c.0 in let d = c.1 in omega arith
count_filled functions.Sum b xs is some c = some
count_filled functions.Min b xs is some c = some
count_filled functions.Max b xs is some c = some
count_filled functions.Count b xs is some c = some
count_filled functions.Concat b xs is some c = some
count_filled functions.And b xs is some c = some
count_filled functions.Or b xs is some c = some
count_filled _ b xs is some c = let a = c.0 in let d = c.1 in omega arith

args_more : (f : Func) (xs : List Arg) (x : Arg) → AreArgs f (args_of xs) → IsArg f x → AreArgs f (args_of (xs ++ x ∷ []))
args_more f [] x h k = (k, tt)
args_more f (y ∷ xs) x h k = (h.0, args_more f xs x h.1 k)

filled_args : (a b : Bool) (f : Func) (xs : List Arg) → AreArgs f (args_of xs) → AreArgs f (args_of (Filled f a b xs))
filled_args true true f xs h = args_more f xs (one (number (pos 0))) h (omega arith)
filled_args true false f xs h = h
filled_args false b f xs h = h

names_more : (q : Kind) (xs : List Arg) (x : Arg) → ArgsNames q (args_of xs) → ArgNames q x → ArgsNames q (args_of (xs ++ x ∷ []))
names_more q [] x h k = (k, tt)
names_more q (y ∷ xs) x h k = (h.0, names_more q xs x h.1 k)

filled_names : (a b : Bool) (f : Func) (q : Kind) (xs : List Arg) → ArgsNames q (args_of xs) → ArgsNames q (args_of (Filled f a b xs))
filled_names true true f q xs h = names_more q xs (one (number (pos 0))) h tt
filled_names true false f q xs h = h
filled_names false b f q xs h = h

range_is : (f : Func) (q : Kind) (a b : List ℕ) → takes_ranges f ≡ true → AllOfKind q (cell a ∷ colon ∷ cell b ∷ []) → IsArg f (cells (area_of a b))
range_is f Rules a b is h = absurd h.0
range_is f Sheet a b is h = (is, area_within a b h.0 h.1.1.0)

mutual
  pub spelt_expr : {n : ℕ} {ts : List Token} {e : Tree} (q : Kind) → Spells n ts e → AllOfKind q ts → IsExpr e
  spelt_expr q (unary u) h = unary_expr q u h
  spelt_expr q (single x) h = spelt_expr q x h
  spelt_expr q (chained {l} {ts} {us} {vs} x o is y r) h =
      let k = kind_both q ts (op o ∷ (us ++ vs)) h in let j = kind_both q us vs k.1.1 in
      (spelt_expr q x k.0, (is, spelt_expr q y j.0, steps_expr q r j.1), tt)

  steps_expr : {l : Level} {vs : List Token} {ss : List Term} (q : Kind) → Repeats l vs ss → AllOfKind q vs → AreSteps l (steps_of ss)
  steps_expr q none h = tt
  steps_expr q (more {us = us} {vs = vs} o is y r) h = let j = kind_both q us vs h.1 in (is, spelt_expr q y j.0, steps_expr q r j.1)

  unary_expr : {ts : List Token} {e : Tree} (q : Kind) → Unary ts e → AllOfKind q ts → IsExpr e
  unary_expr q (primary p) h = primary_expr q p h
  unary_expr q (negated u) h = unary_expr q u h.1
  unary_expr q (posited u) h = unary_expr q u h.1

  primary_expr : {ts : List Token} {e : Tree} (q : Kind) → Primary ts e → AllOfKind q ts → IsExpr e
  primary_expr q (a_number n) h = number_whole q n h.0
  primary_expr q (a_text k) h = h.0
  primary_expr q (a_word k) h = tt
  primary_expr q (a_cell k) h = tt
  primary_expr q (a_group {ts} {e} x) h = spelt_expr q x (kind_both q ts (rpar ∷ []) h.1).0
  primary_expr q (a_call {f} {ts} {xs} x c) h =
      (rw (count_is (filled f xs)) (count_filled f (length xs == 2) xs refl (some_args x) c), filled_args (is_if f) (length xs == 2) f xs (arguments_expr q x (kind_both q ts (rpar ∷ []) h.1.1).0))

  argument_expr : {f : Func} {ts : List Token} {x : Arg} (q : Kind) → Argument f ts x → AllOfKind q ts → IsArg f x
  argument_expr q (formula s) h = spelt_expr q s h
  argument_expr {f = f} q (range is a b) h = range_is f q a b is h

  arguments_expr : {f : Func} {ts : List Token} {xs : List Arg} (q : Kind) → Arguments f ts xs → AllOfKind q ts → AreArgs f (args_of xs)
  arguments_expr q (last x) h = (argument_expr q x h, tt)
  arguments_expr q (next {ts = ts} {us = us} x others) h = let j = kind_both q ts (comma ∷ us) h in (argument_expr q x j.0, arguments_expr q others j.1.1)

word_named : (q : Kind) (k : List ℕ) → OfKind q (word k) → HasNames q (ref k)
word_named Rules k h = h
word_named Sheet k h = absurd h

cell_named : (q : Kind) (k : List ℕ) → OfKind q (cell k) → HasNames q (ref k)
cell_named Rules k h = absurd h
cell_named Sheet k h = h

range_named : (q : Kind) (a b : List ℕ) → AllOfKind q (cell a ∷ colon ∷ cell b ∷ []) → IsTrue (has_ranges q)
range_named Rules a b h = absurd h.0
range_named Sheet a b h = refl

mutual
  pub spelt_names : {n : ℕ} {ts : List Token} {e : Tree} (q : Kind) → Spells n ts e → AllOfKind q ts → HasNames q e
  spelt_names q (unary u) h = unary_names q u h
  spelt_names q (single x) h = spelt_names q x h
  spelt_names q (chained {l} {ts} {us} {vs} x o is y r) h =
      let k = kind_both q ts (op o ∷ (us ++ vs)) h in let j = kind_both q us vs k.1.1 in
      (spelt_names q x k.0, (spelt_names q y j.0, steps_names q r j.1))

  steps_names : {l : Level} {vs : List Token} {ss : List Term} (q : Kind) → Repeats l vs ss → AllOfKind q vs → StepsNames q (steps_of ss)
  steps_names q none h = tt
  steps_names q (more {us = us} {vs = vs} o is y r) h = let j = kind_both q us vs h.1 in (spelt_names q y j.0, steps_names q r j.1)

  unary_names : {ts : List Token} {e : Tree} (q : Kind) → Unary ts e → AllOfKind q ts → HasNames q e
  unary_names q (primary p) h = primary_names q p h
  unary_names q (negated u) h = unary_names q u h.1
  unary_names q (posited u) h = unary_names q u h.1

  primary_names : {ts : List Token} {e : Tree} (q : Kind) → Primary ts e → AllOfKind q ts → HasNames q e
  primary_names q (a_number n) h = tt
  primary_names q (a_text k) h = tt
  primary_names q (a_word k) h = word_named q k h.0
  primary_names q (a_cell k) h = cell_named q k h.0
  primary_names q (a_group {ts} {e} x) h = spelt_names q x (kind_both q ts (rpar ∷ []) h.1).0
  primary_names q (a_call {f} {ts} {xs} x c) h = filled_names (is_if f) (length xs == 2) f q xs (arguments_names q x (kind_both q ts (rpar ∷ []) h.1.1).0)

  argument_names : {f : Func} {ts : List Token} {x : Arg} (q : Kind) → Argument f ts x → AllOfKind q ts → ArgNames q x
  argument_names q (formula s) h = spelt_names q s h
  argument_names q (range is a b) h = range_named q a b h

  arguments_names : {f : Func} {ts : List Token} {xs : List Arg} (q : Kind) → Arguments f ts xs → AllOfKind q ts → ArgsNames q (args_of xs)
  arguments_names q (last x) h = (argument_names q x h, tt)
  arguments_names q (next {ts = ts} {us = us} x others) h = let j = kind_both q ts (comma ∷ us) h in (argument_names q x j.0, arguments_names q others j.1.1)

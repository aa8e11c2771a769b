-- What is printed has only tokens of the book's kind.
use Rattle.std.proofs.Common.{ℕ, pos, Bool, true, false, List, [], ◌∷◌, ◌++◌, length, ◌≡◌, ◌<◌, ◌≤◌, nat_le, ◌&&◌, ◌==◌, refl, arith, slice_index}
use Rattle.std.proofs.lemmas.Bool.{leb-true}
use Rattle.std.proofs.lemmas.Bool.Decides.{nat_tests}
use Rattle.carte_name.specs.Names.{is_upper, is_lower, is_rule_name, is_cell_name}
use Rattle.carte_name.specs.declared.kind.Kind.{Kind}
use Rattle.carte_name.specs.declared.kind.Kind.TheVariants.{Rules, Sheet}
use Rattle.carte_value.specs.Areas.{area_of}
use Rattle.carte_tree.specs.Tree.{rank, Tree, number, Arg, one, cells, Term, steps_of, args_of, is_if, filled}
use Rattle.carte_formula.specs.Tokens.{Level, Func, Token, digits, word, cell, op, rpar, comma, colon}
use Rattle.carte_formula.specs.Grammar.{Spells, unary, single, chained, Repeats, none, more, Unary, primary, negated, posited, Primary, a_number, a_text, a_word, a_cell, a_call, a_group, Argument, formula, range, Arguments, last, next}
use Rattle.carte_formula.specs.Print.{name_token, bracketed, shown, steps_shown, args_shown, later_shown, arg_shown}
use Rattle.carte_lexer.specs.Kinds.{OfKind, AllOfKind}
use Rattle.carte_tree.specs.Printed.{tight}
use Rattle.carte_lexer.proofs.Bytes.{and_left, and_right}
use Rattle.carte_formula.proofs.Again.{kind_both, kind_join, later_of, shown_more, Filled}
use Rattle.carte_formula.proofs.Corners.{first_is_cell, last_is_cell}

bracketed_kind : (b : Bool) (q : Kind) (ts : List Token) → AllOfKind q ts → AllOfKind q (bracketed b ts)
bracketed_kind true q ts h = h
bracketed_kind false q ts h = (tt, kind_join q ts (rpar ∷ []) h (tt, tt))

and_false : (a : Bool) → (a && false) ≡ false
and_false true = refl
and_false false = refl

lt_leb : (a b : ℕ) → b < a → nat_le a b ≡ false
lt_leb a b h = grind (arith, nat_tests)

not_upper : (b : ℕ) → is_lower b ≡ true → is_upper b ≡ false
not_upper b h = let k : 97 ≤ b = leb-true 97 b (and_left (nat_le 97 b) (nat_le b 122) h) in rw (lt_leb b 90 (omega arith)) (and_false (nat_le 65 b))

-- a rule's name begins with no upper-case letter, and a cell's with one
pub rule_not_upper : (k : List ℕ) → is_rule_name k ≡ true → is_upper (slice_index k 0) ≡ false
rule_not_upper k h =
    not_upper (slice_index k 0) (and_right _ (is_lower (slice_index k 0)) (and_left (_ && is_lower (slice_index k 0)) _ h))

pub cell_upper : (k : List ℕ) → is_cell_name k ≡ true → is_upper (slice_index k 0) ≡ true
cell_upper k h = and_left (is_upper (slice_index k 0)) _ h

word_kind : (q : Kind) (k : List ℕ) → OfKind q (word k) → OfKind q (name_token k)
word_kind Rules k h = rw (rule_not_upper k h) h
word_kind Sheet k h = absurd h

cell_kind : (q : Kind) (k : List ℕ) → OfKind q (cell k) → OfKind q (name_token k)
cell_kind Rules k h = absurd h
cell_kind Sheet k h = rw (cell_upper k h) h

range_kind : (q : Kind) (a b : List ℕ) → AllOfKind q (cell a ∷ colon ∷ cell b ∷ []) → AllOfKind q (arg_shown (cells (area_of a b)))
range_kind Rules a b h = absurd h.0
range_kind Sheet a b h = (first_is_cell a b h.0 h.1.1.0, (tt, (last_is_cell a b h.0 h.1.1.0, tt)))

zero_kind : (q : Kind) → AllOfKind q (comma ∷ digits (pos 0) ∷ [])
zero_kind q = (tt, ((omega arith), tt))

filled_kind : {f : Func} (q : Kind) (a b : Bool) {ts : List Token} {xs : List Arg} → Arguments f ts xs → AllOfKind q (args_shown (args_of xs)) → AllOfKind q (args_shown (args_of (Filled f a b xs)))
filled_kind q true true {xs = xs} orig h = rw (shown_more orig (one (number (pos 0)))) (kind_join q (args_shown (args_of xs)) (comma ∷ digits (pos 0) ∷ []) h (zero_kind q))
filled_kind q true false orig h = h
filled_kind q false b orig h = h

mutual
  pub shown_kind : {n : ℕ} {ts : List Token} {e : Tree} (q : Kind) → Spells n ts e → AllOfKind q ts → AllOfKind q (shown e)
  shown_kind q (unary u) h = unary_kind q u h
  shown_kind q (single x) h = shown_kind q x h
  shown_kind q (chained {l} {ts} {us} {vs} {e} {d} {ss} x o is y r) h =
      let k = kind_both q ts (op o ∷ (us ++ vs)) h in
      let j = kind_both q us vs k.1.1 in
      kind_join q (bracketed (tight (rank l) e) (shown e)) (op o ∷ (bracketed (tight (rank l) d) (shown d) ++ steps_shown l (steps_of ss)))
      (bracketed_kind (tight (rank l) e) q (shown e) (shown_kind q x k.0))
      (tt, kind_join q (bracketed (tight (rank l) d) (shown d)) (steps_shown l (steps_of ss)) (bracketed_kind (tight (rank l) d) q (shown d) (shown_kind q y j.0)) (steps_kind q r j.1))

  steps_kind : {l : Level} {vs : List Token} {ss : List Term} (q : Kind) → Repeats l vs ss → AllOfKind q vs → AllOfKind q (steps_shown l (steps_of ss))
  steps_kind q none h = tt
  steps_kind {l} q (more {us = us} {vs = vs} {d = d} {ss = ss} o is y r) h =
      let j = kind_both q us vs h.1 in
      (tt, kind_join q (bracketed (tight (rank l) d) (shown d)) (steps_shown l (steps_of ss)) (bracketed_kind (tight (rank l) d) q (shown d) (shown_kind q y j.0)) (steps_kind q r j.1))

  unary_kind : {ts : List Token} {e : Tree} (q : Kind) → Unary ts e → AllOfKind q ts → AllOfKind q (shown e)
  unary_kind q (primary p) h = primary_kind q p h
  unary_kind q (negated {e = e} u) h = (tt, bracketed_kind (tight 0 e) q (shown e) (unary_kind q u h.1))
  unary_kind q (posited u) h = unary_kind q u h.1

  primary_kind : {ts : List Token} {e : Tree} (q : Kind) → Primary ts e → AllOfKind q ts → AllOfKind q (shown e)
  primary_kind q (a_number n) h = h
  primary_kind q (a_text k) h = h
  primary_kind q (a_word k) h = (word_kind q k h.0, tt)
  primary_kind q (a_cell k) h = (cell_kind q k h.0, tt)
  primary_kind q (a_group {ts} {e} x) h = shown_kind q x (kind_both q ts (rpar ∷ []) h.1).0
  primary_kind q (a_call {f} {ts} {xs} x c) h =
      (tt, (tt, kind_join q (args_shown (args_of (filled f xs))) (rpar ∷ []) (filled_kind q (is_if f) (length xs == 2) x (arguments_kind q x (kind_both q ts (rpar ∷ []) h.1.1).0)) (tt, tt)))

  argument_kind : {f : Func} {ts : List Token} {x : Arg} (q : Kind) → Argument f ts x → AllOfKind q ts → AllOfKind q (arg_shown x)
  argument_kind q (formula s) h = shown_kind q s h
  argument_kind q (range is a b) h = range_kind q a b h

  arguments_kind : {f : Func} {ts : List Token} {xs : List Arg} (q : Kind) → Arguments f ts xs → AllOfKind q ts → AllOfKind q (args_shown (args_of xs))
  arguments_kind q (last {x = x} h) k = kind_join q (arg_shown x) [] (argument_kind q h k) tt
  arguments_kind q (next {ts = ts} {us = us} {x = x} {xs = xs} h others) k =
      let j = kind_both q ts (comma ∷ us) k in
      kind_join q (arg_shown x) (later_shown (args_of xs)) (argument_kind q h j.0) (rw (later_of others) (tt, arguments_kind q others j.1.1))

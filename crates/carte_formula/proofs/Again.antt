-- What is printed spells the same formula, in tokens of the same kind.
use Rattle.std.proofs.Common.{ℕ, pos, zero, suc, Bool, true, false, List, [], ◌∷◌, ◌++◌, length, ◌≡◌, ◌≤◌, ◌&&◌, ◌==◌, if◌then◌else◌, refl, append_assoc, length-append, arith, nat_lt, slice_index, subst}
use Rattle.std.proofs.lemmas.Bool.{lt-ltb, ltb-true}
use Rattle.std.proofs.lemmas.Bool.Decides.{nat_tests}
use Rattle.std.proofs.lemmas.List.{append-nil}
use Rattle.carte_name.specs.Names.{is_upper}
use Rattle.carte_name.specs.declared.kind.Kind.{Kind}
use Rattle.carte_name.specs.declared.kind.Kind.TheVariants.{Rules, Sheet}
use Rattle.carte_value.specs.Areas.{area_of}
use Rattle.carte_tree.specs.Tree.{first_corner, last_corner, rank, Tree, number, ref, chain, call, Steps, Args, arg, Arg, one, cells, Term, steps_of, args_of, arity, takes_ranges, is_if, filled}
use Rattle.carte_formula.specs.Tokens.{Level, Func, Token, cell, func, op, lpar, rpar, comma, colon}
use Rattle.carte_tree.specs.declared.expr.Func.TheVariants as functions
use Rattle.carte_formula.specs.Grammar.{Counts, Spells, unary, single, chained, Repeats, none, more, Unary, primary, negated, posited, Primary, a_number, a_text, a_word, a_cell, a_call, a_group, Argument, formula, range, Arguments, last, next}
use Rattle.carte_formula.specs.Print.{name_by, bracketed, shown, steps_shown, args_shown, later_shown, arg_shown, held}
use Rattle.carte_lexer.specs.Kinds.{AllOfKind}
use Rattle.carte_tree.specs.Printed.{tight}
use Rattle.carte_formula.proofs.Sound.{raise, rank_low}
use Rattle.carte_formula.proofs.Corners.{corners_again}

pub kind_both : (q : Kind) (ts us : List Token) → AllOfKind q (ts ++ us) → AllOfKind q ts × AllOfKind q us
kind_both q [] us h = (tt, h)
kind_both q (t ∷ ts) us h = ((h.0, (kind_both q ts us h.1).0), (kind_both q ts us h.1).1)

pub kind_join : (q : Kind) (ts us : List Token) → AllOfKind q ts → AllOfKind q us → AllOfKind q (ts ++ us)
kind_join q [] us h k = k
kind_join q (t ∷ ts) us h k = (h.0, kind_join q ts us h.1 k)

abbrev Again : Tree → Type 0
Again e = (m : ℕ) → Spells m (held m e) e

as_unary : {ts : List Token} {e : Tree} → Spells zero ts e → Unary ts e
as_unary (unary u) = u

least : (m : ℕ) → zero ≤ m
least m = omega arith

-- a primary may stand anywhere
anywhere : (m : ℕ) {ts : List Token} {e : Tree} → Primary ts e → Spells m ts e
anywhere m p = raise m zero (least m) (unary (primary p))

everywhere : (m : ℕ) {ts : List Token} {e : Tree} → Unary ts e → Spells m ts e
everywhere m u = raise m zero (least m) (unary u)

held_chain : (b : Bool) (l : Level) (e : Tree) (ss : Steps) (m : ℕ) → nat_lt (rank l) m ≡ b → Spells (suc (rank l)) (shown (chain l e ss)) (chain l e ss) → Spells m (bracketed b (shown (chain l e ss))) (chain l e ss)
held_chain true l e ss m is h = raise m (suc (rank l)) (ltb-true (rank l) m is) h
held_chain false l e ss m is h = anywhere m (a_group (raise 4 (suc (rank l)) (rank_low l) h))

word_token : (b : Bool) (k : List ℕ) (m : ℕ) → Spells m (name_by b k ∷ []) (ref k)
word_token true k m = anywhere m (a_cell k)
word_token false k m = anywhere m (a_word k)

filled_twice : (f : Func) (xs : List Arg) → filled f (filled f xs) ≡ filled f xs
filled_twice f xs = twice (is_if f) (length xs == 2) xs refl
  where
    third : (xs : List Arg) (x : Arg) → (length xs == 2) ≡ true → (length (xs ++ x ∷ []) == 2) ≡ false
    third xs x h = simp length-append (grind (arith, nat_tests))

    twice : (a b : Bool) (xs : List Arg) → (length xs == 2) ≡ b
        → (if a && (length (if a && b then xs ++ one (number (pos 0)) ∷ [] else xs) == 2) then (if a && b then xs ++ one (number (pos 0)) ∷ [] else xs) ++ one (number (pos 0)) ∷ [] else (if a && b then xs ++ one (number (pos 0)) ∷ [] else xs))
        ≡ (if a && b then xs ++ one (number (pos 0)) ∷ [] else xs)
    twice true true xs is = rw (third xs (one (number (pos 0))) is) refl
    twice true false xs is = rw is refl
    twice false b xs is = refl

abbrev pub Filled : Func → Bool → Bool → List Arg → List Arg
Filled f a b xs = if a && b then xs ++ one (number (pos 0)) ∷ [] else xs

counts_filled : (f : Func) (xs : List Arg) → Counts (arity f) (length xs) → Counts (arity f) (length (filled f xs))
counts_filled f xs c = by_if f (length xs == 2) xs refl c
  where
    by_if : (f : Func) (b : Bool) (xs : List Arg) → (length xs == 2) ≡ b → Counts (arity f) (length xs) → Counts (arity f) (length (Filled f (is_if f) b xs))
    by_if functions.If true xs is c = let h : length xs ≡ 2 = grind (arith, nat_tests) in (simp length-append (omega arith), simp length-append (omega arith))
    by_if functions.If false xs is c = c
    by_if _ b xs is c = c

later_is : (x : Arg) (xs : Args) → later_shown (arg x xs) ≡ comma ∷ args_shown (arg x xs)
later_is x xs = refl

pub later_of : {f : Func} {ts : List Token} {xs : List Arg} → Arguments f ts xs → later_shown (args_of xs) ≡ comma ∷ args_shown (args_of xs)
later_of (last x) = refl
later_of (next x xs) = refl

-- one more argument
arguments_more : {f : Func} {ts us : List Token} {xs : List Arg} {x : Arg} → Arguments f ts xs → Argument f us x → Arguments f (ts ++ (comma ∷ us)) (xs ++ x ∷ [])
arguments_more (last h) k = next h (last k)
arguments_more {us = us} (next {ts = ts} {us = vs} h others) k = rw (append_assoc ts (comma ∷ vs) (comma ∷ us)) (next h (arguments_more others k))

later_more : (xs : List Arg) (x : Arg) → later_shown (args_of (xs ++ x ∷ [])) ≡ later_shown (args_of xs) ++ (comma ∷ (arg_shown x ++ []))
later_more [] x = refl
later_more (y ∷ xs) x = rw (later_more xs x) (simp append_assoc refl)

pub shown_more : {f : Func} {ts : List Token} {xs : List Arg} → Arguments f ts xs → (x : Arg) → args_shown (args_of (xs ++ x ∷ [])) ≡ args_shown (args_of xs) ++ (comma ∷ (arg_shown x ++ []))
shown_more (last {x = y} h) x = simp append_assoc refl
shown_more (next {x = y} {xs = xs} h others) x = rw (later_more xs x) (simp append_assoc refl)

filled_arguments : {f : Func} (a b : Bool) {ts : List Token} {xs : List Arg} → Arguments f ts xs → Arguments f (args_shown (args_of xs)) xs → Arguments f (args_shown (args_of (Filled f a b xs))) (Filled f a b xs)
filled_arguments true true orig h = rw (shown_more orig (one (number (pos 0)))) (arguments_more h (formula (anywhere 4 (a_number (pos 0)))))
filled_arguments true false orig h = h
filled_arguments false b orig h = h

-- no bracket stands round a whole formula
pub bare : (e : Tree) → tight 4 e ≡ true
bare (chain l e ss) = lt-ltb (rank l) 4 (rank_low l)
bare _ = refl

range_again : {f : Func} (q : Kind) → takes_ranges f ≡ true → (a b : List ℕ) → AllOfKind q (cell a ∷ colon ∷ cell b ∷ []) → Argument f (arg_shown (cells (area_of a b))) (cells (area_of a b))
range_again {f} Rules is a b h = absurd h.0
range_again {f} Sheet is a b h = subst (λ r. Argument f (arg_shown (cells (area_of a b))) (cells r)) (corners_again a b h.0 h.1.1.0) (range is (first_corner (area_of a b)) (last_corner (area_of a b)))

mutual
  pub again : {n : ℕ} {ts : List Token} {e : Tree} (q : Kind) → Spells n ts e → AllOfKind q ts → Again e
  again q (unary u) h m = again_unary q u h m
  again q (single x) h m = again q x h m
  again q (chained {l} {ts} {us} {vs} {e} {d} {ss} x o is y r) h m =
      let k = kind_both q ts (op o ∷ (us ++ vs)) h in
      let j = kind_both q us vs k.1.1 in
      held_chain (nat_lt (rank l) m) l e (steps_of (record { op = o; operand = d } ∷ ss)) m refl
      (chained (again q x k.0 (rank l)) o is (again q y j.0 (rank l)) (again_repeats q r j.1))

  again_repeats : {l : Level} {vs : List Token} {ss : List Term} (q : Kind) → Repeats l vs ss → AllOfKind q vs → Repeats l (steps_shown l (steps_of ss)) ss
  again_repeats q none h = none
  again_repeats {l} q (more {us = us} {vs = vs} o is y r) h =
      let j = kind_both q us vs h.1 in
      more o is (again q y j.0 (rank l)) (again_repeats q r j.1)

  again_unary : {ts : List Token} {e : Tree} (q : Kind) → Unary ts e → AllOfKind q ts → Again e
  again_unary q (primary p) h m = again_primary q p h m
  again_unary q (negated u) h m = everywhere m (negated (as_unary (again_unary q u h.1 zero)))
  again_unary q (posited u) h m = again_unary q u h.1 m

  again_primary : {ts : List Token} {e : Tree} (q : Kind) → Primary ts e → AllOfKind q ts → Again e
  again_primary q (a_number n) h m = anywhere m (a_number n)
  again_primary q (a_text k) h m = anywhere m (a_text k)
  again_primary q (a_word k) h m = word_token (is_upper (slice_index k 0)) k m
  again_primary q (a_cell k) h m = word_token (is_upper (slice_index k 0)) k m
  again_primary q (a_group {ts} {e} x) h m = again q x (kind_both q ts (rpar ∷ []) h.1).0 m
  again_primary q (a_call {f} {ts} {xs} x c) h m =
      subst (λ ys. Spells m (func f ∷ lpar ∷ (args_shown (args_of (filled f xs)) ++ rpar ∷ [])) (call f (args_of ys))) (filled_twice f xs) (anywhere m (a_call (filled_arguments (is_if f) (length xs == 2) x (again_arguments q x (kind_both q ts (rpar ∷ []) h.1.1).0)) (counts_filled f xs c)))

  again_argument : {f : Func} {ts : List Token} {x : Arg} (q : Kind) → Argument f ts x → AllOfKind q ts → Argument f (arg_shown x) x
  again_argument q (formula {e = e} s) h = formula (rw (bare e) at (again q s h 4))
  again_argument q (range is a b) h = range_again q is a b h

  again_arguments : {f : Func} {ts : List Token} {xs : List Arg} (q : Kind) → Arguments f ts xs → AllOfKind q ts → Arguments f (args_shown (args_of xs)) xs
  again_arguments q (last h) k = rw append-nil (last (again_argument q h k))
  again_arguments q (next {ts = ts} {us = us} h others) k =
      let j = kind_both q ts (comma ∷ us) k in
      rw (later_of others) (next (again_argument q h j.0) (again_arguments q others j.1.1))

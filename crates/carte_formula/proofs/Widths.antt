-- How many cells the ranges of a text have is how many those of its formula have.
use Rattle.std.proofs.Common.{ℕ, pos, Bool, true, false, List, [], ◌∷◌, ◌++◌, length, ◌≡◌, ◌≤◌, ◌+◌, ◌==◌, Some, None, if◌then◌else◌, refl, append_assoc, arith, nat_lt}
use Rattle.std.proofs.lemmas.Bool.{le-ltb, ltb-false}
use Rattle.std.proofs.lemmas.List.{append-nil}
use Rattle.carte_value.specs.Areas.{size_of}
use Rattle.carte_tree.specs.Tree.{Tree, number, text, ref, neg, chain, call, Steps, no_step, step, Args, no_arg, arg, Arg, one, cells, Term, steps_of, args_of, is_if}
use Rattle.carte_formula.specs.Tokens.{Level, Func, Token, cell, op, rpar, comma, colon, Placed, tokens_of}
use Rattle.carte_formula.specs.Grammar.{Spells, unary, single, chained, Repeats, none, more, Unary, primary, negated, posited, Primary, a_number, a_text, a_word, a_cell, a_call, a_group, Argument, formula, range, Arguments, last, next}
use Rattle.carte_lexer.specs.Widths.{range_size, width, wide_from}
use Rattle.carte_formula.proofs.Again.{Filled}

abbrev mutual
  pub tree_width : Tree → ℕ
  tree_width (number n) = 0
  tree_width (text k) = 0
  tree_width (ref k) = 0
  tree_width (neg e) = tree_width e
  tree_width (chain l e ss) = tree_width e + steps_width ss
  tree_width (call f xs) = args_width xs

  pub steps_width : Steps → ℕ
  steps_width no_step = 0
  steps_width (step o e ss) = tree_width e + steps_width ss

  pub args_width : Args → ℕ
  args_width no_arg = 0
  args_width (arg x xs) = arg_width x + args_width xs

  pub arg_width : Arg → ℕ
  arg_width (one e) = tree_width e
  arg_width (cells a) = size_of a

abbrev NoColon : List Token → Type 0
NoColon (colon ∷ ts) = ⊥
NoColon _ = Unit {0}

no_range : (a : List ℕ) (rest : List Token) → NoColon rest → range_size (cell a) rest ≡ 0
no_range a [] h = refl
no_range a (colon ∷ ts) h = absurd h
no_range a (_ ∷ ts) h = refl

args_width_more : (xs : List Arg) (x : Arg) → args_width (args_of (xs ++ x ∷ [])) ≡ args_width (args_of xs) + arg_width x
args_width_more [] x = omega arith
args_width_more (y ∷ xs) x = let h = args_width_more xs x in omega arith

filled_width : (a b : Bool) (f : Func) (xs : List Arg) → args_width (args_of (Filled f a b xs)) ≡ args_width (args_of xs)
filled_width true true f xs = let h = args_width_more xs (one (number (pos 0))) in omega arith
filled_width true false f xs = refl
filled_width false b f xs = refl

repeats_colon : {l : Level} {vs : List Token} {ss : List Term} → Repeats l vs ss → (rest : List Token) → NoColon rest → NoColon (vs ++ rest)
repeats_colon none rest h = h
repeats_colon (more o is y r) rest h = tt

mutual
  widths : {n : ℕ} {ts : List Token} {e : Tree} → Spells n ts e → (rest : List Token) → NoColon rest → width (ts ++ rest) ≡ tree_width e + width rest
  widths (unary u) rest c = unary_widths u rest c
  widths (single x) rest c = widths x rest c
  widths (chained {l} {ts} {us} {vs} {e} {d} {ss} x o is y r) rest c =
      rw (append_assoc ts (op o ∷ (us ++ vs)) rest, append_assoc us vs rest)
      (let a = widths x (op o ∷ (us ++ (vs ++ rest))) tt in let b = widths y (vs ++ rest) (repeats_colon r rest c) in let d' = repeats_widths r rest c in omega arith)

  repeats_widths : {l : Level} {vs : List Token} {ss : List Term} → Repeats l vs ss → (rest : List Token) → NoColon rest → width (vs ++ rest) ≡ steps_width (steps_of ss) + width rest
  repeats_widths none rest c = omega arith
  repeats_widths (more {us = us} {vs = vs} o is y r) rest c =
      rw (append_assoc us vs rest) (let b = widths y (vs ++ rest) (repeats_colon r rest c) in let d' = repeats_widths r rest c in omega arith)

  unary_widths : {ts : List Token} {e : Tree} → Unary ts e → (rest : List Token) → NoColon rest → width (ts ++ rest) ≡ tree_width e + width rest
  unary_widths (primary p) rest c = primary_widths p rest c
  unary_widths (negated u) rest c = let a = unary_widths u rest c in omega arith
  unary_widths (posited u) rest c = let a = unary_widths u rest c in omega arith

  primary_widths : {ts : List Token} {e : Tree} → Primary ts e → (rest : List Token) → NoColon rest → width (ts ++ rest) ≡ tree_width e + width rest
  primary_widths (a_number n) rest c = omega arith
  primary_widths (a_text k) rest c = omega arith
  primary_widths (a_word k) rest c = omega arith
  primary_widths (a_cell k) rest c = let a = no_range k rest c in omega arith
  primary_widths (a_group {ts} {e} x) rest c = rw (append_assoc ts (rpar ∷ []) rest) (let a = widths x (rpar ∷ rest) tt in omega arith)
  primary_widths (a_call {f} {ts} {xs} x k) rest c =
      rw (append_assoc ts (rpar ∷ []) rest) (let a = arguments_widths x (rpar ∷ rest) tt in let b = filled_width (is_if f) (length xs == 2) f xs in omega arith)

  argument_widths : {f : Func} {ts : List Token} {x : Arg} → Argument f ts x → (rest : List Token) → NoColon rest → width (ts ++ rest) ≡ arg_width x + width rest
  argument_widths (formula s) rest c = widths s rest c
  argument_widths (range is a b) rest c = let h = no_range b rest c in omega arith

  arguments_widths : {f : Func} {ts : List Token} {xs : List Arg} → Arguments f ts xs → (rest : List Token) → NoColon rest → width (ts ++ rest) ≡ args_width (args_of xs) + width rest
  arguments_widths (last h) rest c = let a = argument_widths h rest c in omega arith
  arguments_widths (next {ts = ts} {us = us} h others) rest c =
      rw (append_assoc ts (comma ∷ us) rest) (let a = argument_widths h (comma ∷ (us ++ rest)) tt in let b = arguments_widths others rest c in omega arith)

-- two texts of one formula have as many cells
pub same_width : {ts us : List Token} {e : Tree} → Spells 4 ts e → Spells 4 us e → width ts ≡ width us
same_width {ts} {us} h k = let a = rw append-nil at (widths h [] tt) in let b = rw append-nil at (widths k [] tt) in omega arith

-- nothing is too wide exactly where there are at most 65,536 cells
pub narrow : (sum : ℕ) (ps : List Placed) → wide_from sum ps ≡ None → sum ≤ 65536 → sum + width (tokens_of ps) ≤ 65536
narrow sum [] h low = omega arith
narrow sum (p ∷ ps) h low = narrow_if (nat_lt 65536 (sum + range_size p.token (tokens_of ps))) sum p ps refl h (λ k l. narrow (sum + range_size p.token (tokens_of ps)) ps k l)
  where
    narrow_if : (b : Bool) (sum : ℕ) (p : Placed) (ps : List Placed) → nat_lt 65536 (sum + range_size p.token (tokens_of ps)) ≡ b
        → (if b then Some p.place else wide_from (sum + range_size p.token (tokens_of ps)) ps) ≡ None
        → (wide_from (sum + range_size p.token (tokens_of ps)) ps ≡ None → sum + range_size p.token (tokens_of ps) ≤ 65536 → (sum + range_size p.token (tokens_of ps)) + width (tokens_of ps) ≤ 65536)
        → sum + (range_size p.token (tokens_of ps) + width (tokens_of ps)) ≤ 65536
    narrow_if true sum p ps is h go = absurd (let z : ⊥ = cc in z)
    narrow_if false sum p ps is h go = let k = go h (ltb-false 65536 (sum + range_size p.token (tokens_of ps)) is) in omega arith

pub not_wide : (sum : ℕ) (ps : List Placed) → sum + width (tokens_of ps) ≤ 65536 → wide_from sum ps ≡ None
not_wide sum [] h = refl
not_wide sum (p ∷ ps) h = rw (le-ltb 65536 (sum + range_size p.token (tokens_of ps)) (omega arith)) (not_wide (sum + range_size p.token (tokens_of ps)) ps (omega arith))

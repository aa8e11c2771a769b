-- The machine takes each text of the grammar.
use Rattle.std.proofs.Common.{ℕ, zero, suc, Bool, true, false, List, [], ◌∷◌, ◌++◌, length, ◌≡◌, ◌≤◌, ◌<◌, Some, if◌then◌else◌, refl, sym, ◌∙◌, ap, append_assoc, length-append, arith, ◌==◌}
use Rattle.std.proofs.lemmas.Bool.Decides.{nat_tests}
use Rattle.std.proofs.lemmas.Bool.{lt-ltb, le-ltb, le-leb, ne_eqb}
use Rattle.std.proofs.lemmas.List.{append-nil}
use Rattle.carte_tree.specs.Tree.{level_of, rank, Tree, ref, chain, Arg, Term, steps_of, Arity, many, between, arity, enough_in, room_in, takes_ranges, called_tree}
use Rattle.carte_formula.specs.Tokens.{Op, Level, Func, Token, op, rpar, comma, colon}
use Rattle.carte_formula.specs.Grammar.{Counts, Spells, unary, single, chained, Repeats, none, more, Unary, primary, negated, posited, Primary, a_number, a_text, a_word, a_cell, a_call, a_group, Argument, formula, range, Arguments, last, next}
use Rattle.carte_formula.specs.Begun.{Frame, sign, chain_at, group, args, joined, grown}
use Rattle.carte_formula.specs.Machine.{wants, had, corner, after, cell_at, end_args, next_args, parsed, with}

-- what follows is no part of what operators of ranks below n join
abbrev pub Stops : ℕ → List Token → Type 0
Stops n [] = Unit {0}
Stops n (op o ∷ ts) = n ≤ rank (level_of o)
Stops n (colon ∷ ts) = ⊥
Stops n (_ ∷ ts) = Unit {0}

-- such a chain may stand there as an operand
abbrev pub Fits : ℕ → List Frame → Type 0
Fits n (chain_at l e done p ∷ S) = n ≤ rank l
Fits n (sign b ∷ S) = ⊥
Fits n _ = Unit {0}

stops_less : (n : ℕ) (ts : List Token) → Stops (suc n) ts → Stops n ts
stops_less n [] h = tt
stops_less n (op o ∷ ts) h = omega arith
stops_less n (colon ∷ ts) h = h
stops_less n (_ ∷ ts) h = tt

fits_less : (n : ℕ) (S : List Frame) → Fits (suc n) S → Fits n S
fits_less n [] h = tt
fits_less n (sign b ∷ S) h = h
fits_less n (chain_at l e done p ∷ S) h = omega arith
fits_less n (group ∷ S) h = tt
fits_less n (args f xs ∷ S) h = tt

after_fits : (n : ℕ) (S : List Frame) (v : Tree) → Fits n S → after v S ≡ had v S
after_fits n [] v h = refl
after_fits n (sign b ∷ S) v h = absurd h
after_fits n (chain_at l e done p ∷ S) v h = refl
after_fits n (group ∷ S) v h = refl
after_fits n (args f xs ∷ S) v h = refl

same_eqb : (m n : ℕ) → m ≡ n → (m == n) ≡ true
same_eqb m n h = grind (arith, nat_tests)

joined_fits : (o : Op) (v : Tree) (S : List Frame) → Fits (suc (rank (level_of o))) S → joined o v S ≡ chain_at (level_of o) v [] o ∷ S
joined_fits o v [] h = refl
joined_fits o v (sign b ∷ S) h = absurd h
joined_fits o v (chain_at l e done p ∷ S) h = rw (le-ltb (rank l) (rank (level_of o)) (omega arith), ne_eqb (rank l) (rank (level_of o)) (λ q. omega arith)) refl
joined_fits o v (group ∷ S) h = refl
joined_fits o v (args f xs ∷ S) h = refl

joined_same : (o : Op) (v : Tree) (l : Level) (e : Tree) (done : List Term) (p : Op) (S : List Frame) → level_of o ≡ l → joined o v (chain_at l e done p ∷ S) ≡ chain_at l e (grown done p v) o ∷ S
joined_same o v l e done p S h = let k : rank l ≡ rank (level_of o) = ap rank (sym h) in rw (le-ltb (rank l) (rank (level_of o)) (omega arith), same_eqb (rank l) (rank (level_of o)) k) refl

joined_is : (o : Op) (l : Level) (v : Tree) (S : List Frame) → level_of o ≡ l → Fits (suc (rank l)) S → joined o v S ≡ chain_at l v [] o ∷ S
joined_is o l v S is h = rw (← is) (joined_fits o v S (rw (← is) at h))

-- a chain is whole where nothing follows that belongs to it
chain_ends : (l : Level) (e : Tree) (done : List Term) (p : Op) (v : Tree) (S : List Frame) (rest : List Token) → Stops (suc (rank l)) rest
    → parsed (had v (chain_at l e done p ∷ S)) rest ≡ parsed (had (chain l e (steps_of (grown done p v))) S) rest
chain_ends l e done p v S [] h = refl
chain_ends l e done p v S (op o ∷ ts) h = rw (lt-ltb (rank l) (rank (level_of o)) (omega arith)) refl
chain_ends l e done p v S (colon ∷ ts) h = absurd h
chain_ends l e done p v S (_ ∷ ts) h = refl

-- a cell is an operand where no colon follows
corner_goes : (k : List ℕ) (f : Func) (xs : List Arg) (S : List Frame) (rest : List Token) → Stops zero rest
    → parsed (corner k f xs S) rest ≡ parsed (had (ref k) (args f xs ∷ S)) rest
corner_goes k f xs S [] h = refl
corner_goes k f xs S (colon ∷ ts) h = absurd h
corner_goes k f xs S (_ ∷ ts) h = refl

corner_if : (b : Bool) (k : List ℕ) (f : Func) (xs : List Arg) (S : List Frame) (rest : List Token) → Stops zero rest
    → parsed (if b then corner k f xs S else had (ref k) (args f xs ∷ S)) rest ≡ parsed (had (ref k) (args f xs ∷ S)) rest
corner_if true k f xs S rest h = corner_goes k f xs S rest h
corner_if false k f xs S rest h = refl

cell_goes : (k : List ℕ) (S : List Frame) (rest : List Token) → Stops zero rest → parsed (cell_at k S) rest ≡ parsed (after (ref k) S) rest
cell_goes k [] rest h = refl
cell_goes k (sign b ∷ S) rest h = refl
cell_goes k (chain_at l e done p ∷ S) rest h = refl
cell_goes k (group ∷ S) rest h = refl
cell_goes k (args f xs ∷ S) rest h = corner_if (takes_ranges f) k f xs S rest h

-- what a chain's repetition is followed by is no part of its first operand
repeats_stop : {l : Level} {vs : List Token} {ss : List Term} → Repeats l vs ss → (rest : List Token) → Stops (suc (rank l)) rest → Stops (rank l) (vs ++ rest)
repeats_stop {l} none rest h = stops_less (rank l) rest h
repeats_stop {l} (more o is x r) rest h = let k : rank (level_of o) ≡ rank l = ap rank is in omega arith

-- so many arguments are right, so these are enough, and fewer leave room
enough_of : (a : Arity) (n : ℕ) → Counts a n → enough_in a n ≡ true
enough_of many n h = refl
enough_of (between a b) n h = le-leb a n h.0

room_of : (a : Arity) (m n : ℕ) → m < n → Counts a n → room_in a m ≡ true
room_of many m n less h = refl
room_of (between a b) m n less h = lt-ltb m b (omega arith)

some_arguments : {f : Func} {ts : List Token} {xs : List Arg} → Arguments f ts xs → 0 < length xs
some_arguments (last x) = omega arith
some_arguments (next x xs) = omega arith

fewer : (done : List Arg) (x : Arg) (xs : List Arg) → 0 < length xs → length (done ++ x ∷ []) < length (done ++ (x ∷ xs))
fewer done x xs h = simp length-append (omega arith)

ends_here : (f : Func) (xs : List Arg) (S : List Frame) (rest : List Token) → enough_in (arity f) (length xs) ≡ true
    → with (end_args f xs S) (λ u. parsed u rest) ≡ parsed (after (called_tree f xs) S) rest
ends_here f xs S rest h = rw h refl

goes_here : (f : Func) (xs : List Arg) (S : List Frame) (rest : List Token) → room_in (arity f) (length xs) ≡ true
    → with (next_args f xs S) (λ u. parsed u rest) ≡ parsed (wants (args f xs ∷ S)) rest
goes_here f xs S rest h = rw h refl

mutual
  pub spelt : {n : ℕ} {ts : List Token} {e : Tree} → Spells n ts e → (S : List Frame) (rest : List Token) → Fits n S → Stops n rest
      → parsed (wants S) (ts ++ rest) ≡ parsed (had e S) rest
  spelt {e = e} (unary u) S rest fits stops = unary_spelt u S rest stops ∙ ap (λ s. parsed s rest) (after_fits zero S e fits)
  spelt (single {n} x) S rest fits stops = spelt x S rest (fits_less n S fits) (stops_less n rest stops)
  spelt (chained {l} {ts} {us} {vs} {e} {d} {ss} x o is y r) S rest fits stops =
      let k : rank (level_of o) ≡ rank l = ap rank is in
      rw (append_assoc ts (op o ∷ (us ++ vs)) rest, append_assoc us vs rest)
      (spelt x S (op o ∷ (us ++ (vs ++ rest))) (fits_less (rank l) S fits) (omega arith)
      ∙ ap (λ s. parsed (wants s) (us ++ (vs ++ rest))) (joined_is o l e S is fits)
      ∙ spelt y (chain_at l e [] o ∷ S) (vs ++ rest) (omega arith) (repeats_stop r rest stops)
      ∙ repeated r e [] o d S rest fits stops)

  pub repeated : {l : Level} {vs : List Token} {ss : List Term} → Repeats l vs ss → (e : Tree) (done : List Term) (p : Op) (v : Tree) (S : List Frame) (rest : List Token)
      → Fits (suc (rank l)) S → Stops (suc (rank l)) rest
      → parsed (had v (chain_at l e done p ∷ S)) (vs ++ rest) ≡ parsed (had (chain l e (steps_of (done ++ record { op = p; operand = v } ∷ ss))) S) rest
  repeated {l} none e done p v S rest fits stops = chain_ends l e done p v S rest stops
  repeated {l} (more {us = us} {vs = vs} {d = d} {ss = ss} o is y r) e done p v S rest fits stops =
      rw (append_assoc us vs rest)
      (ap (λ s. parsed (wants s) (us ++ (vs ++ rest))) (joined_same o v l e done p S is)
      ∙ spelt y (chain_at l e (grown done p v) o ∷ S) (vs ++ rest) (omega arith) (repeats_stop r rest stops)
      ∙ repeated r e (grown done p v) o d S rest fits stops
      ∙ ap (λ q. parsed (had (chain l e (steps_of q)) S) rest) (append_assoc done (record { op = p; operand = v } ∷ []) (record { op = o; operand = d } ∷ ss)))

  pub unary_spelt : {ts : List Token} {e : Tree} → Unary ts e → (S : List Frame) (rest : List Token) → Stops zero rest
      → parsed (wants S) (ts ++ rest) ≡ parsed (after e S) rest
  unary_spelt (primary x) S rest stops = primary_spelt x S rest stops
  unary_spelt (negated u) S rest stops = unary_spelt u (sign true ∷ S) rest stops
  unary_spelt (posited u) S rest stops = unary_spelt u (sign false ∷ S) rest stops

  pub primary_spelt : {ts : List Token} {e : Tree} → Primary ts e → (S : List Frame) (rest : List Token) → Stops zero rest
      → parsed (wants S) (ts ++ rest) ≡ parsed (after e S) rest
  primary_spelt (a_number n) S rest stops = refl
  primary_spelt (a_text k) S rest stops = refl
  primary_spelt (a_word k) S rest stops = refl
  primary_spelt (a_cell k) S rest stops = cell_goes k S rest stops
  primary_spelt (a_group {ts} {e} x) S rest stops = rw (append_assoc ts (rpar ∷ []) rest) (spelt x (group ∷ S) (rpar ∷ rest) tt tt)
  primary_spelt (a_call {f} {ts} {xs} x c) S rest stops = rw (append_assoc ts (rpar ∷ []) rest) (arguments_spelt x [] S rest c)

  -- an argument before a comma, and the last one
  pub argument_goes : {f : Func} {ts : List Token} {x : Arg} → Argument f ts x → (done : List Arg) (S : List Frame) (rest : List Token)
      → parsed (wants (args f done ∷ S)) (ts ++ comma ∷ rest) ≡ with (next_args f (done ++ x ∷ []) S) (λ u. parsed u rest)
  argument_goes {f = f} (formula h) done S rest = spelt h (args f done ∷ S) (comma ∷ rest) tt tt
  argument_goes {f = f} (range is a b) done S rest = rw is refl

  pub argument_ends : {f : Func} {ts : List Token} {x : Arg} → Argument f ts x → (done : List Arg) (S : List Frame) (rest : List Token)
      → parsed (wants (args f done ∷ S)) (ts ++ rpar ∷ rest) ≡ with (end_args f (done ++ x ∷ []) S) (λ u. parsed u rest)
  argument_ends {f} (formula h) done S rest = spelt h (args f done ∷ S) (rpar ∷ rest) tt tt
  argument_ends {f} (range is a b) done S rest = rw is refl

  pub arguments_spelt : {f : Func} {ts : List Token} {xs : List Arg} → Arguments f ts xs → (done : List Arg) (S : List Frame) (rest : List Token) → Counts (arity f) (length (done ++ xs))
      → parsed (wants (args f done ∷ S)) (ts ++ rpar ∷ rest) ≡ parsed (after (called_tree f (done ++ xs)) S) rest
  arguments_spelt {f = f} (last {x = x} h) done S rest c = argument_ends h done S rest ∙ ends_here f (done ++ x ∷ []) S rest (enough_of (arity f) (length (done ++ x ∷ [])) c)
  arguments_spelt {f = f} (next {ts = ts} {us = us} {x = x} {xs = xs} h others) done S rest c =
      rw (append_assoc ts (comma ∷ us) (rpar ∷ rest))
      (argument_goes h done S (us ++ rpar ∷ rest)
      ∙ goes_here f (done ++ x ∷ []) S (us ++ rpar ∷ rest) (room_of (arity f) (length (done ++ x ∷ [])) (length (done ++ (x ∷ xs))) (fewer done x xs (some_arguments others)) c)
      ∙ arguments_spelt others (done ++ x ∷ []) S rest (rw (append_assoc done (x ∷ []) xs) c)
      ∙ ap (λ ys. parsed (after (called_tree f ys) S) rest) (append_assoc done (x ∷ []) xs))

-- the machine gives the formula that all tokens spell
pub complete : {ts : List Token} {e : Tree} → Spells 4 ts e → parsed (wants []) ts ≡ Some e
complete {ts} {e} h = rw (append-nil) at (spelt h [] [] tt tt)

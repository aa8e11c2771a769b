-- And no other: what the tokens so far spell.
use Rattle.std.proofs.Common.{ℕ, zero, suc, Bool, true, false, List, [], ◌∷◌, ◌++◌, length, ◌≡◌, ◌≤◌, ◌<◌, Option, Some, None, if◌then◌else◌, refl, sym, append_assoc, length-append, arith, ◌+◌, ◌-◌, suc-add, zero-add, subst, nat_lt, ◌==◌}
use Rattle.std.proofs.lemmas.Bool.{ltb-true, leb-true, eqb-true}
use Rattle.std.proofs.lemmas.Bool.Decides.{nat_tests}
use Rattle.std.proofs.lemmas.List.{append-nil}
use Rattle.carte_tree.specs.Tree.{level_of, rank, Tree, number, text, ref, chain, Arg, one, cells, Term, steps_of, Arity, many, between, arity, enough_in, room_in, takes_ranges, called_tree, signed}
use Rattle.carte_formula.specs.Tokens.{Op, sub, add, Level, compare, concat, sum, product, Func, Token, digits, quoted, word, cell, func, op, lpar, rpar, comma, colon}
use Rattle.carte_tree.specs.declared.expr.Func.TheVariants as functions
use Rattle.carte_formula.specs.Grammar.{Counts, Spells, unary, single, chained, Repeats, none, more, Unary, primary, negated, posited, a_number, a_text, a_word, a_cell, a_call, a_group, Argument, formula, range, Arguments, last, next}
use Rattle.carte_formula.specs.Begun.{Frame, sign, chain_at, group, args, joined, ended, grown}
use Rattle.carte_formula.specs.Machine.{State, wants, had, named, corner, half, ranged, after, cell_at, sign_at, begin, close, split, go_on, next_state, end_of, parsed, with}
use Rattle.carte_formula.proofs.Complete.{Fits}

abbrev pub sign_op : Bool → Op
sign_op true = sub
sign_op false = add

-- arguments that are given, whatever arguments follow
abbrev pub Given : Func → List Token → List Arg → Type 0
Given f ys done = (zs : List Token) (xs : List Arg) → Arguments f zs xs → Arguments f (ys ++ zs) (done ++ xs)

-- what the tokens of a stack are
abbrev pub Stood : List Frame → List Token → Type 0
Stood [] ts = ts ≡ []
Stood (sign b ∷ S) ts = (us : List Token) × Stood S us × (ts ≡ us ++ op (sign_op b) ∷ [])
Stood (chain_at l e done p ∷ S) ts = (us : List Token) × Stood S us × Fits (suc (rank l)) S × (xs : List Token) × (ys : List Token) × Spells (rank l) xs e × Repeats l ys done × (level_of p ≡ l) × (ts ≡ us ++ (xs ++ (ys ++ op p ∷ [])))
Stood (group ∷ S) ts = (us : List Token) × Stood S us × (ts ≡ us ++ lpar ∷ [])
Stood (args f done ∷ S) ts = (us : List Token) × Stood S us × (ys : List Token) × Given f ys done × (room_in (arity f) (length done) ≡ true) × (ts ≡ us ++ (func f ∷ lpar ∷ ys))

abbrev pub Stands : State → List Token → Type 0
Stands (wants S) ts = Stood S ts
Stands (had v S) ts = (us : List Token) × Stood S us × (ws : List Token) × Unary ws v × Fits zero S × (ts ≡ us ++ ws)
Stands (named f S) ts = (us : List Token) × Stood S us × (ts ≡ us ++ func f ∷ [])
Stands (corner k f xs S) ts = (us : List Token) × Stood (args f xs ∷ S) us × (takes_ranges f ≡ true) × (ts ≡ us ++ cell k ∷ [])
Stands (half k f xs S) ts = (us : List Token) × Stood (args f xs ∷ S) us × (takes_ranges f ≡ true) × (ts ≡ us ++ (cell k ∷ colon ∷ []))
Stands (ranged a f xs S) ts = (us : List Token) × Stood (args f xs ∷ S) us × (ws : List Token) × Argument f ws (cells a) × (ts ≡ us ++ ws)

abbrev pub Keeps : Option State → List Token → Type 0
Keeps None ts = Unit {0}
Keeps (Some s) ts = Stands s ts

raise_by : (k : ℕ) {n : ℕ} {ts : List Token} {e : Tree} → Spells n ts e → Spells (k + n) ts e
raise_by zero {n} h = rw (zero-add n) h
raise_by (suc k) {n} h = rw (suc-add k n) (single (raise_by k h))

pub raise : (m n : ℕ) {ts : List Token} {e : Tree} → n ≤ m → Spells n ts e → Spells m ts e
raise m n {ts} {e} le h = let k : (m - n) + n ≡ m = omega arith in subst (λ i. Spells i ts e) k (raise_by (m - n) h)

repeats_snoc : {l : Level} {ys : List Token} {done : List Term} (p : Op) {v : Tree} {ws : List Token} → Repeats l ys done → level_of p ≡ l → Spells (rank l) ws v
    → Repeats l (ys ++ op p ∷ ws) (grown done p v)
repeats_snoc {l} p {v} {ws} none is h = rw (← append-nil ws) (more p is h none)
repeats_snoc {l} p {v} {ws} (more {us = us} {vs = vs} o is0 y r) is h = rw (append_assoc us vs (op p ∷ ws)) (more o is0 y (repeats_snoc p r is h))

chain_whole : {l : Level} {xs ys ws : List Token} {e v : Tree} {done : List Term} (p : Op) → Spells (rank l) xs e → Repeats l ys done → level_of p ≡ l → Spells (rank l) ws v
    → Spells (suc (rank l)) (xs ++ (ys ++ op p ∷ ws)) (chain l e (steps_of (grown done p v)))
chain_whole {ws = ws} p x none is h = rw (← append-nil ws) (chained x p is h none)
chain_whole {ws = ws} p x (more {us = us} {vs = vs} o is0 y r) is h = rw (append_assoc us vs (op p ∷ ws)) (chained x o is0 y (repeats_snoc p r is h))

signed_unary : (b : Bool) {ws : List Token} {v : Tree} → Unary ws v → Unary (op (sign_op b) ∷ ws) (signed b v)
signed_unary true h = negated h
signed_unary false h = posited h

after_stands : (S : List Frame) (v : Tree) (us ws ts : List Token) → Stood S us → Unary ws v → ts ≡ us ++ ws → Stands (after v S) ts
after_stands [] v us ws ts s h is = (us, s, ws, h, tt, is)
after_stands (sign b ∷ S) v us ws ts s h is = after_stands S (signed b v) s.0 (op (sign_op b) ∷ ws) ts s.1 (signed_unary b h) (rw (is, s.2) (simp append_assoc refl))
after_stands (chain_at l e done p ∷ S) v us ws ts s h is = (us, s, ws, h, omega arith, is)
after_stands (group ∷ S) v us ws ts s h is = (us, s, ws, h, tt, is)
after_stands (args f xs ∷ S) v us ws ts s h is = (us, s, ws, h, tt, is)

given_last : (f : Func) (ys ws : List Token) (done : List Arg) (x : Arg) → Given f ys done → Argument f ws x → Arguments f (ys ++ ws) (done ++ x ∷ [])
given_last f ys ws done x g h = g ws (x ∷ []) (last h)

given_more : (f : Func) (ys ws : List Token) (done : List Arg) (x : Arg) → Given f ys done → Argument f ws x → Given f (ys ++ (ws ++ comma ∷ [])) (done ++ x ∷ [])
given_more f ys ws done x g h zs xs a = simp append_assoc (g (ws ++ comma ∷ zs) (x ∷ xs) (next h a))

counts_of : (a : Arity) (n m : ℕ) → enough_in a n ≡ true → room_in a m ≡ true → n ≡ m + 1 → Counts a n
counts_of many n m enough room is = tt
counts_of (between a b) n m enough room is = (leb-true a n enough, (let h : m < b = ltb-true m b room in omega arith))

ends_args : (f : Func) (xs : List Arg) (x : Arg) (S : List Frame) (us ys ws ts : List Token) (b : Bool) → enough_in (arity f) (length (xs ++ x ∷ [])) ≡ b → Stood S us → Given f ys xs → room_in (arity f) (length xs) ≡ true → Argument f ws x
    → ts ≡ (us ++ (func f ∷ lpar ∷ ys)) ++ ws → Keeps (if b then Some (after (called_tree f (xs ++ x ∷ [])) S) else None) (ts ++ rpar ∷ [])
ends_args f xs x S us ys ws ts false enough s g room h is = tt
ends_args f xs x S us ys ws ts true enough s g room h is =
    after_stands S (called_tree f (xs ++ x ∷ [])) us (func f ∷ lpar ∷ ((ys ++ ws) ++ rpar ∷ [])) (ts ++ rpar ∷ []) s
    (primary (a_call (given_last f ys ws xs x g h) (counts_of (arity f) (length (xs ++ x ∷ [])) (length xs) enough room (simp length-append (omega arith)))))
    (rw is (simp append_assoc refl))

nexts_args : (f : Func) (xs : List Arg) (x : Arg) (S : List Frame) (us ys ws ts : List Token) (b : Bool) → room_in (arity f) (length (xs ++ x ∷ [])) ≡ b → Stood S us → Given f ys xs → Argument f ws x
    → ts ≡ (us ++ (func f ∷ lpar ∷ ys)) ++ ws → Keeps (if b then Some (wants (args f (xs ++ x ∷ []) ∷ S)) else None) (ts ++ comma ∷ [])
nexts_args f xs x S us ys ws ts false room s g h is = tt
nexts_args f xs x S us ys ws ts true room s g h is = (us, s, ys ++ (ws ++ comma ∷ []), given_more f ys ws xs x g h, room, rw is (simp append_assoc refl))

pub rank_low : (l : Level) → suc (rank l) ≤ 4
rank_low product = omega arith
rank_low sum = omega arith
rank_low concat = omega arith
rank_low compare = omega arith

above : (l : Level) (o : Op) → nat_lt (rank l) (rank (level_of o)) ≡ false → (rank l == rank (level_of o)) ≡ false → suc (rank (level_of o)) ≤ rank l
above l o isa isb = grind (arith, nat_tests)

close_stands : (S : List Frame) (v : Tree) (n : ℕ) (us ws ts : List Token) → Stood S us → Spells n ws v → Fits n S → n ≤ 4 → ts ≡ us ++ ws → Keeps (close v S) (ts ++ rpar ∷ [])
close_stands [] v n us ws ts s h fits low is = tt
close_stands (sign b ∷ S) v n us ws ts s h fits low is = absurd fits
close_stands (chain_at l e done p ∷ S) v n us ws ts s h fits low is =
    close_stands S (chain l e (steps_of (grown done p v))) (suc (rank l)) s.0 (s.3 ++ (s.4 ++ op p ∷ ws)) ts s.1 (chain_whole p s.5 s.6 s.7 (raise (rank l) n fits h)) s.2 (rank_low l)
    (rw (is, s.8) (simp append_assoc refl))
close_stands (group ∷ S) v n us ws ts s h fits low is =
    after_stands S v s.0 (lpar ∷ (ws ++ rpar ∷ [])) (ts ++ rpar ∷ []) s.1 (primary (a_group (raise 4 n low h))) (rw (is, s.2) (simp append_assoc refl))
close_stands (args f xs ∷ S) v n us ws ts s h fits low is =
    ends_args f xs (one v) S s.0 s.2 ws ts (enough_in (arity f) (length (xs ++ one v ∷ []))) refl s.1 s.3 s.4 (formula (raise 4 n low h)) (rw (is, s.5) refl)

split_stands : (S : List Frame) (v : Tree) (n : ℕ) (us ws ts : List Token) → Stood S us → Spells n ws v → Fits n S → n ≤ 4 → ts ≡ us ++ ws → Keeps (split v S) (ts ++ comma ∷ [])
split_stands [] v n us ws ts s h fits low is = tt
split_stands (sign b ∷ S) v n us ws ts s h fits low is = absurd fits
split_stands (chain_at l e done p ∷ S) v n us ws ts s h fits low is =
    split_stands S (chain l e (steps_of (grown done p v))) (suc (rank l)) s.0 (s.3 ++ (s.4 ++ op p ∷ ws)) ts s.1 (chain_whole p s.5 s.6 s.7 (raise (rank l) n fits h)) s.2 (rank_low l)
    (rw (is, s.8) (simp append_assoc refl))
split_stands (group ∷ S) v n us ws ts s h fits low is = tt
split_stands (args f xs ∷ S) v n us ws ts s h fits low is =
    nexts_args f xs (one v) S s.0 s.2 ws ts (room_in (arity f) (length (xs ++ one v ∷ []))) refl s.1 s.3 (formula (raise 4 n low h)) (rw (is, s.5) refl)

abbrev pub Spelt : Option Tree → List Token → Type 0
Spelt None ts = Unit {0}
Spelt (Some e) ts = Spells 4 ts e

ended_stands : (S : List Frame) (v : Tree) (n : ℕ) (us ws ts : List Token) → Stood S us → Spells n ws v → Fits n S → n ≤ 4 → ts ≡ us ++ ws → Spelt (ended v S) ts
ended_stands [] v n us ws ts s h fits low is = rw (is, s) (raise 4 n low h)
ended_stands (sign b ∷ S) v n us ws ts s h fits low is = absurd fits
ended_stands (chain_at l e done p ∷ S) v n us ws ts s h fits low is =
    ended_stands S (chain l e (steps_of (grown done p v))) (suc (rank l)) s.0 (s.3 ++ (s.4 ++ op p ∷ ws)) ts s.1 (chain_whole p s.5 s.6 s.7 (raise (rank l) n fits h)) s.2 (rank_low l)
    (rw (is, s.8) (simp append_assoc refl))
ended_stands (group ∷ S) v n us ws ts s h fits low is = tt
ended_stands (args f xs ∷ S) v n us ws ts s h fits low is = tt

same_rank : (l m : Level) → rank l ≡ rank m → l ≡ m
same_rank product product h = refl
same_rank sum sum h = refl
same_rank concat concat h = refl
same_rank compare compare h = refl
same_rank _ _ h = absurd (let z : ⊥ = omega arith in z)

-- an operator behind a chain, by how tightly the two bind
joins : (o : Op) (l : Level) (e : Tree) (done : List Term) (p : Op) (S : List Frame) (v : Tree) (n : ℕ) (us ws ts : List Token)
    → Stood (chain_at l e done p ∷ S) us → Spells n ws v → n ≤ rank l → n ≤ rank (level_of o) → ts ≡ us ++ ws
    → (a b : Bool) → nat_lt (rank l) (rank (level_of o)) ≡ a → (rank l == rank (level_of o)) ≡ b
    → (nat_lt (rank l) (rank (level_of o)) ≡ true → Stood (joined o (chain l e (steps_of (grown done p v))) S) (ts ++ op o ∷ []))
    → Stood (if a then joined o (chain l e (steps_of (grown done p v))) S else if b then chain_at l e (grown done p v) o ∷ S else chain_at (level_of o) v [] o ∷ chain_at l e done p ∷ S) (ts ++ op o ∷ [])
joins o l e done p S v n us ws ts s h fits low is true b isa isb go = go isa
joins o l e done p S v n us ws ts s h fits low is false true isa isb go =
    (s.0, s.1, s.2, s.3, s.4 ++ op p ∷ ws, s.5, repeats_snoc p s.6 s.7 (raise (rank l) n fits h), sym (same_rank l (level_of o) (eqb-true (rank l) (rank (level_of o)) isb)), rw (is, s.8) (simp append_assoc refl))
joins o l e done p S v n us ws ts s h fits low is false false isa isb go =
    (us, s, above l o isa isb, ws, [], raise (rank (level_of o)) n low h, none, refl, rw is (simp append_assoc refl))

joined_stands : (o : Op) (S : List Frame) (v : Tree) (n : ℕ) (us ws ts : List Token) → Stood S us → Spells n ws v → Fits n S → n ≤ rank (level_of o) → ts ≡ us ++ ws → Stood (joined o v S) (ts ++ op o ∷ [])
joined_stands o [] v n us ws ts s h fits low is = (us, s, tt, ws, [], raise (rank (level_of o)) n low h, none, refl, rw is (simp append_assoc refl))
joined_stands o (sign b ∷ S) v n us ws ts s h fits low is = absurd fits
joined_stands o (chain_at l e done p ∷ S) v n us ws ts s h fits low is =
    joins o l e done p S v n us ws ts s h fits low is (nat_lt (rank l) (rank (level_of o))) (rank l == rank (level_of o)) refl refl
    (λ less. joined_stands o S (chain l e (steps_of (grown done p v))) (suc (rank l)) s.0 (s.3 ++ (s.4 ++ op p ∷ ws)) ts s.1 (chain_whole p s.5 s.6 s.7 (raise (rank l) n fits h)) s.2 (ltb-true (rank l) (rank (level_of o)) less)
    (rw (is, s.8) (simp append_assoc refl)))
joined_stands o (group ∷ S) v n us ws ts s h fits low is = (us, s, tt, ws, [], raise (rank (level_of o)) n low h, none, refl, rw is (simp append_assoc refl))
joined_stands o (args f xs ∷ S) v n us ws ts s h fits low is = (us, s, tt, ws, [], raise (rank (level_of o)) n low h, none, refl, rw is (simp append_assoc refl))

corner_stands : (b : Bool) (k : List ℕ) (f : Func) (xs : List Arg) (S : List Frame) (ts : List Token) → takes_ranges f ≡ b → Stood (args f xs ∷ S) ts
    → Stands (if b then corner k f xs S else had (ref k) (args f xs ∷ S)) (ts ++ cell k ∷ [])
corner_stands true k f xs S ts is s = (ts, s, is, refl)
corner_stands false k f xs S ts is s = (ts, s, cell k ∷ [], primary (a_cell k), tt, refl)

cell_stands : (k : List ℕ) (S : List Frame) (ts : List Token) → Stood S ts → Stands (cell_at k S) (ts ++ cell k ∷ [])
cell_stands k [] ts s = after_stands [] (ref k) ts (cell k ∷ []) (ts ++ cell k ∷ []) s (primary (a_cell k)) refl
cell_stands k (sign b ∷ S) ts s = after_stands (sign b ∷ S) (ref k) ts (cell k ∷ []) (ts ++ cell k ∷ []) s (primary (a_cell k)) refl
cell_stands k (chain_at l e done p ∷ S) ts s = after_stands (chain_at l e done p ∷ S) (ref k) ts (cell k ∷ []) (ts ++ cell k ∷ []) s (primary (a_cell k)) refl
cell_stands k (group ∷ S) ts s = after_stands (group ∷ S) (ref k) ts (cell k ∷ []) (ts ++ cell k ∷ []) s (primary (a_cell k)) refl
cell_stands k (args f xs ∷ S) ts s = corner_stands (takes_ranges f) k f xs S ts refl s

keeps_sign : (o : Op) (S : List Frame) (ts : List Token) → Stood S ts → Keeps (sign_at o S) (ts ++ op o ∷ [])
keeps_sign sub S ts s = (ts, s, refl)
keeps_sign add S ts s = (ts, s, refl)
keeps_sign _ S ts s = tt

keeps_begin : (t : Token) (S : List Frame) (ts : List Token) → Stood S ts → Keeps (begin t S) (ts ++ t ∷ [])
keeps_begin (digits n) S ts s = after_stands S (number n) ts (digits n ∷ []) (ts ++ digits n ∷ []) s (primary (a_number n)) refl
keeps_begin (quoted k) S ts s = after_stands S (text k) ts (quoted k ∷ []) (ts ++ quoted k ∷ []) s (primary (a_text k)) refl
keeps_begin (word k) S ts s = after_stands S (ref k) ts (word k ∷ []) (ts ++ word k ∷ []) s (primary (a_word k)) refl
keeps_begin (cell k) S ts s = cell_stands k S ts s
keeps_begin (func f) S ts s = (ts, s, refl)
keeps_begin (op o) S ts s = keeps_sign o S ts s
keeps_begin lpar S ts s = (ts, s, refl)
keeps_begin _ S ts s = tt

keeps_had : (t : Token) (v : Tree) (S : List Frame) (ts : List Token) → Stands (had v S) ts → Keeps (go_on t v S) (ts ++ t ∷ [])
keeps_had (op o) v S ts s = joined_stands o S v zero s.0 s.2 ts s.1 (unary s.3) s.4 (omega arith) s.5
keeps_had rpar v S ts s = close_stands S v zero s.0 s.2 ts s.1 (unary s.3) s.4 (omega arith) s.5
keeps_had comma v S ts s = split_stands S v zero s.0 s.2 ts s.1 (unary s.3) s.4 (omega arith) s.5
keeps_had _ v S ts s = tt

room_first : (f : Func) → room_in (arity f) 0 ≡ true
room_first functions.Sum = refl
room_first _ = refl

pub keeps : (s : State) (t : Token) (ts : List Token) → Stands s ts → Keeps (next_state s t) (ts ++ t ∷ [])
keeps (wants S) t ts s = keeps_begin t S ts s
keeps (had v S) t ts s = keeps_had t v S ts s
keeps (named f S) lpar ts s = (s.0, s.1, [], (λ zs xs h. h), room_first f, rw s.2 (simp append_assoc refl))
keeps (named f S) _ ts s = tt
keeps (corner k f xs S) colon ts s = (s.0, s.1, s.2, rw s.3 (simp append_assoc refl))
keeps (corner k f xs S) (op o) ts s = keeps_had (op o) (ref k) (args f xs ∷ S) ts (s.0, s.1, cell k ∷ [], primary (a_cell k), tt, s.3)
keeps (corner k f xs S) rpar ts s = keeps_had rpar (ref k) (args f xs ∷ S) ts (s.0, s.1, cell k ∷ [], primary (a_cell k), tt, s.3)
keeps (corner k f xs S) comma ts s = keeps_had comma (ref k) (args f xs ∷ S) ts (s.0, s.1, cell k ∷ [], primary (a_cell k), tt, s.3)
keeps (corner k f xs S) _ ts s = tt
keeps (half k f xs S) (cell j) ts s = (s.0, s.1, cell k ∷ colon ∷ cell j ∷ [], range s.2 k j, rw s.3 (simp append_assoc refl))
keeps (half k f xs S) _ ts s = tt
keeps (ranged a f xs S) comma ts s = nexts_args f xs (cells a) S s.1.0 s.1.2 s.2 ts (room_in (arity f) (length (xs ++ cells a ∷ []))) refl s.1.1 s.1.3 s.3 (rw (s.4, s.1.5) refl)
keeps (ranged a f xs S) rpar ts s = ends_args f xs (cells a) S s.1.0 s.1.2 s.2 ts (enough_in (arity f) (length (xs ++ cells a ∷ []))) refl s.1.1 s.1.3 s.1.4 s.3 (rw (s.4, s.1.5) refl)
keeps (ranged a f xs S) _ ts s = tt

ended_is : (s : State) (ts : List Token) → Stands s ts → Spelt (end_of s) ts
ended_is (had v S) ts s = ended_stands S v zero s.0 s.2 ts s.1 (unary s.3) s.4 (omega arith) s.5
ended_is (wants S) ts s = tt
ended_is (named f S) ts s = tt
ended_is (corner k f xs S) ts s = tt
ended_is (half k f xs S) ts s = tt
ended_is (ranged a f xs S) ts s = tt

with_keeps : (o : Option State) (prefix ts : List Token) → Keeps o prefix → ((u : State) → Stands u prefix → Spelt (parsed u ts) (prefix ++ ts)) → Spelt (with o (λ u. parsed u ts)) (prefix ++ ts)
with_keeps None prefix ts h go = tt
with_keeps (Some u) prefix ts h go = go u h

pub spells_on : (s : State) (prefix ts : List Token) → Stands s prefix → Spelt (parsed s ts) (prefix ++ ts)
spells_on s prefix [] h = rw append-nil (ended_is s prefix h)
spells_on s prefix (t ∷ ts) h =
    rw (← append_assoc prefix (t ∷ []) ts) (with_keeps (next_state s t) (prefix ++ t ∷ []) ts (keeps s t prefix h) (λ u k. spells_on u (prefix ++ t ∷ []) ts k))

-- what the machine gives is a formula that the tokens spell
pub sound : (ts : List Token) (e : Tree) → parsed (wants []) ts ≡ Some e → Spells 4 ts e
sound ts e h = rw h at (spells_on (wants []) [] ts refl)

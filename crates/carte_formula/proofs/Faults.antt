-- What the machine reads is what the grammar says of the tokens, faults and places too.
use Rattle.std.proofs.Common.{ℕ, zero, suc, Bool, true, false, List, [], ◌∷◌, ◌++◌, length, take, ◌≡◌, ◌≤◌, ◌<◌, ◌⊎◌, inl, inr, Option, Some, None, Result, Err, if◌then◌else◌, refl, sym, ◌∙◌, ap, append_assoc, length-append, arith, nat_lt, ◌==◌}
use Rattle.std.proofs.lemmas.Bool.{ltb-true, ltb-false}
use Rattle.std.proofs.lemmas.List.{append-nil, take-append-le, take_all}
use Rattle.carte_tree.specs.Tree.{level_of, rank, Tree, number, text, ref, chain, Arg, one, cells, Term, steps_of, arity, enough_in, room_in, takes_ranges, called_tree, signed}
use Rattle.carte_formula.specs.Tokens.{Op, sub, add, Level, Func, Token, digits, quoted, word, cell, func, op, lpar, rpar, comma, colon, Placed, tokens_of}
use Rattle.carte_formula.specs.Begun.{Frame, sign, chain_at, group, args, joined, grown, depth_of}
use Rattle.carte_formula.specs.Machine.{State, wants, had, named, corner, half, ranged, after, cell_at, sign_at, begin, close, split, go_on, next_state, end_of, parsed, moved, with}
use Rattle.carte_formula.specs.Reading.{FormulaFault, TooDeep, dropped, closed, Round, round_step, rounds, around, Shallow, ReadAs, depth, or_syntax, deeper, tokens_read}
use Rattle.carte_formula.proofs.Complete.{Fits, complete}
use Rattle.carte_formula.proofs.Sound.{sound, Stood, Stands, Keeps, keeps}
use Rattle.carte_formula.proofs.Viable.{viable, stuck}

-- what stands round a place, by the stack
abbrev pub by_of : List Frame → List Bool
by_of [] = []
by_of (sign b ∷ S) = true ∷ by_of S
by_of (chain_at l e done p ∷ S) = by_of S
by_of (group ∷ S) = false ∷ by_of S
by_of (args f xs ∷ S) = false ∷ by_of S

abbrev pub round_of : State → Round
round_of (wants S) = record { wanted = true; by = by_of S }
round_of (had v S) = record { wanted = false; by = by_of S }
round_of (named f S) = record { wanted = true; by = by_of S }
round_of (corner k f xs S) = record { wanted = false; by = false ∷ by_of S }
round_of (half k f xs S) = record { wanted = true; by = false ∷ by_of S }
round_of (ranged a f xs S) = record { wanted = false; by = false ∷ by_of S }

abbrev Turns : Option State → Round → Type 0
Turns None r = Unit {0}
Turns (Some u) r = round_of u ≡ r

no_sign : (S : List Frame) (n : ℕ) (ts : List Token) → Stood S ts → Fits n S → dropped (by_of S) ≡ by_of S
no_sign [] n ts s fits = refl
no_sign (sign b ∷ S) n ts s fits = absurd fits
no_sign (chain_at l e done p ∷ S) n ts s fits = no_sign S (suc (rank l)) s.0 s.1 s.2
no_sign (group ∷ S) n ts s fits = refl
no_sign (args f xs ∷ S) n ts s fits = refl

round_after : (S : List Frame) (v : Tree) (ts : List Token) → Stood S ts → round_of (after v S) ≡ record { wanted = false; by = dropped (by_of S) }
round_after [] v ts s = refl
round_after (sign b ∷ S) v ts s = round_after S (signed b v) s.0 s.1
round_after (chain_at l e done p ∷ S) v ts s = rw (no_sign S (suc (rank l)) s.0 s.1 s.2) refl
round_after (group ∷ S) v ts s = refl
round_after (args f xs ∷ S) v ts s = refl

by_joins : (a b : Bool) (o : Op) (l : Level) (e : Tree) (done : List Term) (p : Op) (S : List Frame) (v : Tree) → by_of (joined o (chain l e (steps_of (grown done p v))) S) ≡ by_of S
    → by_of (if a then joined o (chain l e (steps_of (grown done p v))) S else if b then chain_at l e (grown done p v) o ∷ S else chain_at (level_of o) v [] o ∷ chain_at l e done p ∷ S) ≡ by_of S
by_joins true b o l e done p S v h = h
by_joins false true o l e done p S v h = refl
by_joins false false o l e done p S v h = refl

by_joined : (o : Op) (S : List Frame) (v : Tree) (n : ℕ) (ts : List Token) → Stood S ts → Fits n S → by_of (joined o v S) ≡ by_of S
by_joined o [] v n ts s fits = refl
by_joined o (sign b ∷ S) v n ts s fits = absurd fits
by_joined o (chain_at l e done p ∷ S) v n ts s fits =
    by_joins (nat_lt (rank l) (rank (level_of o))) (rank l == rank (level_of o)) o l e done p S v (by_joined o S (chain l e (steps_of (grown done p v))) (suc (rank l)) s.0 s.1 s.2)
by_joined o (group ∷ S) v n ts s fits = refl
by_joined o (args f xs ∷ S) v n ts s fits = refl

turns_end : (b : Bool) (e : Tree) (S : List Frame) (ts : List Token) → Stood S ts → Turns (if b then Some (after e S) else None) (record { wanted = false; by = dropped (by_of S) })
turns_end true e S ts s = round_after S e ts s
turns_end false e S ts s = tt

turns_next : (b : Bool) (f : Func) (xs : List Arg) (S : List Frame) → Turns (if b then Some (wants (args f xs ∷ S)) else None) (record { wanted = true; by = false ∷ by_of S })
turns_next true f xs S = refl
turns_next false f xs S = tt

turns_close : (S : List Frame) (v : Tree) (n : ℕ) (ts : List Token) → Stood S ts → Fits n S → Turns (close v S) (record { wanted = false; by = closed (by_of S) })
turns_close [] v n ts s fits = tt
turns_close (sign b ∷ S) v n ts s fits = absurd fits
turns_close (chain_at l e done p ∷ S) v n ts s fits = turns_close S (chain l e (steps_of (grown done p v))) (suc (rank l)) s.0 s.1 s.2
turns_close (group ∷ S) v n ts s fits = round_after S v s.0 s.1
turns_close (args f xs ∷ S) v n ts s fits = turns_end (enough_in (arity f) (length (xs ++ one v ∷ []))) (called_tree f (xs ++ one v ∷ [])) S s.0 s.1

turns_split : (S : List Frame) (v : Tree) (n : ℕ) (ts : List Token) → Stood S ts → Fits n S → Turns (split v S) (record { wanted = true; by = by_of S })
turns_split [] v n ts s fits = tt
turns_split (sign b ∷ S) v n ts s fits = absurd fits
turns_split (chain_at l e done p ∷ S) v n ts s fits = turns_split S (chain l e (steps_of (grown done p v))) (suc (rank l)) s.0 s.1 s.2
turns_split (group ∷ S) v n ts s fits = tt
turns_split (args f xs ∷ S) v n ts s fits = turns_next (room_in (arity f) (length (xs ++ one v ∷ []))) f (xs ++ one v ∷ []) S

turns_corner : (b : Bool) (k : List ℕ) (f : Func) (xs : List Arg) (S : List Frame)
    → round_of (if b then corner k f xs S else had (ref k) (args f xs ∷ S)) ≡ record { wanted = false; by = false ∷ by_of S }
turns_corner true k f xs S = refl
turns_corner false k f xs S = refl

turns_cell : (k : List ℕ) (S : List Frame) (ts : List Token) → Stood S ts → round_of (cell_at k S) ≡ record { wanted = false; by = dropped (by_of S) }
turns_cell k [] ts s = refl
turns_cell k (sign b ∷ S) ts s = round_after S (signed b (ref k)) s.0 s.1
turns_cell k (chain_at l e done p ∷ S) ts s = round_after (chain_at l e done p ∷ S) (ref k) ts s
turns_cell k (group ∷ S) ts s = refl
turns_cell k (args f xs ∷ S) ts s = turns_corner (takes_ranges f) k f xs S

turns_sign : (o : Op) (S : List Frame) → Turns (sign_at o S) (record { wanted = true; by = true ∷ by_of S })
turns_sign sub S = refl
turns_sign add S = refl
turns_sign _ S = tt

turns_begin : (t : Token) (S : List Frame) (ts : List Token) → Stood S ts → Turns (begin t S) (round_step (round_of (wants S)) t)
turns_begin (digits n) S ts s = round_after S (number n) ts s
turns_begin (quoted k) S ts s = round_after S (text k) ts s
turns_begin (word k) S ts s = round_after S (ref k) ts s
turns_begin (cell k) S ts s = turns_cell k S ts s
turns_begin (func f) S ts s = refl
turns_begin (op o) S ts s = turns_sign o S
turns_begin lpar S ts s = refl
turns_begin _ S ts s = tt

turns_had : (t : Token) (v : Tree) (S : List Frame) (ts : List Token) → Stands (had v S) ts → Turns (go_on t v S) (round_step (round_of (had v S)) t)
turns_had (op o) v S ts s = rw (by_joined o S v zero s.0 s.1 s.4) refl
turns_had rpar v S ts s = turns_close S v zero s.0 s.1 s.4
turns_had comma v S ts s = turns_split S v zero s.0 s.1 s.4
turns_had _ v S ts s = tt

turns : (s : State) (t : Token) (ts : List Token) → Stands s ts → Turns (next_state s t) (round_step (round_of s) t)
turns (wants S) t ts s = turns_begin t S ts s
turns (had v S) t ts s = turns_had t v S ts s
turns (named f S) lpar ts s = refl
turns (named f S) _ ts s = tt
turns (corner k f xs S) colon ts s = refl
turns (corner k f xs S) (op o) ts s = refl
turns (corner k f xs S) rpar ts s = turns_close (args f xs ∷ S) (ref k) zero s.0 s.1 tt
turns (corner k f xs S) comma ts s = turns_split (args f xs ∷ S) (ref k) zero s.0 s.1 tt
turns (corner k f xs S) _ ts s = tt
turns (half k f xs S) (cell j) ts s = refl
turns (half k f xs S) _ ts s = tt
turns (ranged a f xs S) comma ts s = turns_next (room_in (arity f) (length (xs ++ cells a ∷ []))) f (xs ++ cells a ∷ []) S
turns (ranged a f xs S) rpar ts s = turns_end (enough_in (arity f) (length (xs ++ cells a ∷ []))) (called_tree f (xs ++ cells a ∷ [])) S s.1.0 s.1.1
turns (ranged a f xs S) _ ts s = tt

by_length : (S : List Frame) → length (by_of S) ≡ depth_of S
by_length [] = refl
by_length (sign b ∷ S) = let h = by_length S in omega arith
by_length (chain_at l e done p ∷ S) = by_length S
by_length (group ∷ S) = let h = by_length S in omega arith
by_length (args f xs ∷ S) = let h = by_length S in omega arith

depth_is : (s : State) → length (round_of s).by ≡ depth s
depth_is (wants S) = by_length S
depth_is (had v S) = by_length S
depth_is (named f S) = by_length S
depth_is (corner k f xs S) = let h = by_length S in omega arith
depth_is (half k f xs S) = let h = by_length S in omega arith
depth_is (ranged a f xs S) = let h = by_length S in omega arith

-- a state that the tokens so far lead to, with what stands round its place
abbrev pub Reached : State → List Token → Type 0
Reached s ts = (moved (wants []) ts ≡ Some s) × Stands s ts × (rounds (record { wanted = true; by = [] }) ts ≡ round_of s)

moved_on : (s u : State) (ts : List Token) (t : Token) (w : State) → moved w ts ≡ Some s → next_state s t ≡ Some u → moved w (ts ++ t ∷ []) ≡ Some u
moved_on s u [] t w m n = let h : w ≡ s = cc in rw (h, n) refl
moved_on s u (t' ∷ ts) t w m n = moved_with (next_state w t') s u ts t (λ x k. moved_on s u ts t x k n) m
  where
    moved_with : (o : Option State) (s u : State) (ts : List Token) (t : Token) → ((x : State) → moved x ts ≡ Some s → moved x (ts ++ t ∷ []) ≡ Some u)
        → with o (λ x. moved x ts) ≡ Some s → with o (λ x. moved x (ts ++ t ∷ [])) ≡ Some u
    moved_with None s u ts t go h = absurd (let z : ⊥ = cc in z)
    moved_with (Some x) s u ts t go h = go x h

rounds_on : (r : Round) (ts : List Token) (t : Token) → rounds r (ts ++ t ∷ []) ≡ round_step (rounds r ts) t
rounds_on r [] t = refl
rounds_on r (t' ∷ ts) t = rounds_on (round_step r t') ts t

turned : (o : Option State) (u : State) (r : Round) → o ≡ Some u → Turns o r → round_of u ≡ r
turned None u r is h = absurd (let z : ⊥ = cc in z)
turned (Some w) u r is h = let k : w ≡ u = cc in rw (← k) h

kept : (o : Option State) (u : State) (ts : List Token) → o ≡ Some u → Keeps o ts → Stands u ts
kept None u ts is h = absurd (let z : ⊥ = cc in z)
kept (Some w) u ts is h = let k : w ≡ u = cc in rw (← k) h

pub reached_on : (s u : State) (ts : List Token) (t : Token) → Reached s ts → next_state s t ≡ Some u → Reached u (ts ++ t ∷ [])
reached_on s u ts t (m, k, r) n = (
  moved_on s u ts t (wants []) m n,
  kept (next_state s t) u (ts ++ t ∷ []) n (keeps s t ts k),
  rounds_on (record { wanted = true; by = [] }) ts t ∙ ap (λ x. round_step x t) r ∙ sym (turned (next_state s t) u (round_step (round_of s) t) n (turns s t ts k)),
)

pub around_is : (s : State) (ts : List Token) → Reached s ts → around ts ≡ depth s
around_is s ts (m, k, r) = ap (λ x. length x.by) r ∙ depth_is s

pub stuck_on : (s : State) (ts : List Token) (t : Token) (w : State) → moved w ts ≡ Some s → next_state s t ≡ None → moved w (ts ++ t ∷ []) ≡ None
stuck_on s [] t w m n = let h : w ≡ s = cc in rw (h, n) refl
stuck_on s (t' ∷ ts) t w m n = moved_with (next_state w t') s ts t (λ x k. stuck_on s ts t x k n) m
  where
    moved_with : (o : Option State) (s : State) (ts : List Token) (t : Token) → ((x : State) → moved x ts ≡ Some s → moved x (ts ++ t ∷ []) ≡ None)
        → with o (λ x. moved x ts) ≡ Some s → with o (λ x. moved x (ts ++ t ∷ [])) ≡ None
    moved_with None s ts t go h = absurd (let z : ⊥ = cc in z)
    moved_with (Some x) s ts t go h = go x h

pub rest_none : (s : State) (ts : List Token) → moved (wants []) ts ≡ Some s → parsed (wants []) ts ≡ end_of s
rest_none s ts m = rest_of (wants []) s ts m
  where
    with_rest : (o : Option State) (s : State) (ts : List Token) → ((x : State) → moved x ts ≡ Some s → parsed x ts ≡ end_of s) → with o (λ x. moved x ts) ≡ Some s → with o (λ x. parsed x ts) ≡ end_of s
    with_rest None s ts go h = absurd (let z : ⊥ = cc in z)
    with_rest (Some x) s ts go h = go x h

    rest_of : (w s : State) (ts : List Token) → moved w ts ≡ Some s → parsed w ts ≡ end_of s
    rest_of w s [] m = let h : w ≡ s = cc in ap end_of h
    rest_of w s (t ∷ ts) m = with_rest (next_state w t) s ts (λ x k. rest_of x s ts k) m

lt_or : (k n : ℕ) → (k ≤ n) ⊎ (n < k)
lt_or k n = grind arith

take_none : (k : ℕ) → around (take k []) ≤ 64
take_none zero = omega arith
take_none (suc k) = omega arith

take_whole : (k : ℕ) (ts : List Token) (t : Token) → length ts < k → take k (ts ++ t ∷ []) ≡ ts ++ t ∷ []
take_whole k ts t h = take_all k (ts ++ t ∷ []) (simp length-append (omega arith))

shallow_on : (ts : List Token) (t : Token) → Shallow ts → around (ts ++ t ∷ []) ≤ 64 → Shallow (ts ++ t ∷ [])
shallow_on ts t h low k = elim (lt_or k (length ts)) [
  | inl less ↦ rw (take-append-le k ts (t ∷ []) less) (h k)
  | inr more ↦ rw (take_whole k ts t more) low
]

-- what a state and the tokens behind it are read as
reads_end : (o : Option Tree) (s : State) (prefix : List Placed) (size : ℕ) → end_of s ≡ o → Reached s (tokens_of prefix) → Shallow (tokens_of prefix) → ReadAs prefix size (or_syntax o size)
reads_end None s prefix size is r low =
    (prefix, [], sym (append-nil prefix), viable (tokens_of prefix) s r.0, low, (refl, (λ e h. let p : parsed (wants []) (tokens_of prefix) ≡ Some e = complete h in let q : parsed (wants []) (tokens_of prefix) ≡ end_of s = rest_none s (tokens_of prefix) r.0 in let z : ⊥ = cc in z)))
reads_end (Some e) s prefix size is r low = (sound (tokens_of prefix) e (rest_none s (tokens_of prefix) r.0 ∙ is), low)

pub tokens_append : (ps qs : List Placed) → tokens_of (ps ++ qs) ≡ tokens_of ps ++ tokens_of qs
tokens_append [] qs = refl
tokens_append (p ∷ ps) qs = ap (λ ts. p.token ∷ ts) (tokens_append ps qs)

reads_deep : (b : Bool) (s u : State) (prefix ps : List Placed) (p : Placed) (size : ℕ) (go : Result Tree FormulaFault) → nat_lt 64 (depth u) ≡ b → Reached s (tokens_of prefix) → Shallow (tokens_of prefix)
    → Reached u (tokens_of prefix ++ p.token ∷ []) → (Shallow (tokens_of prefix ++ p.token ∷ []) → ReadAs (prefix ++ (p ∷ ps)) size go)
    → ReadAs (prefix ++ (p ∷ ps)) size (if b then Err (TooDeep p.place) else go)
reads_deep true s u prefix ps p size go is r low q next =
    (prefix, p ∷ ps, refl, low, (refl, viable (tokens_of prefix ++ p.token ∷ []) u q.0, rw (around_is u (tokens_of prefix ++ p.token ∷ []) q) (ltb-true 64 (depth u) is)))
reads_deep false s u prefix ps p size go is r low q next =
    next (shallow_on (tokens_of prefix) p.token low (rw (around_is u (tokens_of prefix ++ p.token ∷ []) q) (ltb-false 64 (depth u) is)))

reads_deeper : (o : Option State) (s : State) (prefix ps : List Placed) (p : Placed) (size : ℕ) → next_state s p.token ≡ o → Reached s (tokens_of prefix) → Shallow (tokens_of prefix)
    → ((u : State) → Reached u (tokens_of prefix ++ p.token ∷ []) → Shallow (tokens_of prefix ++ p.token ∷ []) → ReadAs (prefix ++ (p ∷ ps)) size (tokens_read u ps size))
    → ReadAs (prefix ++ (p ∷ ps)) size (deeper o p.place (λ u. tokens_read u ps size))
reads_deeper None s prefix ps p size is r low go =
    (prefix, p ∷ ps, refl, viable (tokens_of prefix) s r.0, low, (refl, stuck (tokens_of prefix ++ p.token ∷ []) (stuck_on s (tokens_of prefix) p.token (wants []) r.0 is)))
reads_deeper (Some u) s prefix ps p size is r low go =
    let q : Reached u (tokens_of prefix ++ p.token ∷ []) = reached_on s u (tokens_of prefix) p.token r is in
    reads_deep (nat_lt 64 (depth u)) s u prefix ps p size (tokens_read u ps size) refl r low q (go u q)

reads_on : (s : State) (prefix ps : List Placed) (size : ℕ) → Reached s (tokens_of prefix) → Shallow (tokens_of prefix) → ReadAs (prefix ++ ps) size (tokens_read s ps size)
reads_on s prefix [] size r low = rw append-nil (reads_end (end_of s) s prefix size refl r low)
reads_on s prefix (p ∷ ps) size r low =
    reads_deeper (next_state s p.token) s prefix ps p size refl r low
    (λ u q l. rw (← append_assoc prefix (p ∷ []) ps) (reads_on u (prefix ++ p ∷ []) ps size (rw (tokens_append prefix (p ∷ [])) q) (rw (tokens_append prefix (p ∷ [])) l)))

pub reads : (ps : List Placed) (size : ℕ) → ReadAs ps size (tokens_read (wants []) ps size)
reads ps size = reads_on (wants []) [] ps size (refl, refl, refl) (λ k. take_none k)

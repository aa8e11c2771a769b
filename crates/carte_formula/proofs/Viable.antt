-- Where the machine goes on a formula begins so, and where it stops none does.
use Rattle.std.proofs.Common.{ℕ, pos, zero, suc, Bool, true, List, [], ◌∷◌, ◌++◌, length, ◌≡◌, ◌≤◌, ◌+◌, ◌⊎◌, inl, inr, Option, Some, None, refl, length-append, arith, nat_le}
use Rattle.std.proofs.lemmas.Bool.{le-leb}
use Rattle.std.proofs.lemmas.Bool.Decides.{nat_tests}
use Rattle.carte_value.specs.Areas.{area_of}
use Rattle.carte_tree.specs.Tree.{Tree, number, ref, chain, Arg, one, cells, steps_of, Arity, many, between, arity, enough_in, room_in, called_tree, signed}
use Rattle.carte_formula.specs.Tokens.{Func, Area, Token, digits, cell, lpar, rpar, comma}
use Rattle.carte_tree.specs.declared.expr.Func.TheVariants as functions
use Rattle.carte_formula.specs.Grammar.{Spells, Viable}
use Rattle.carte_formula.specs.Begun.{Frame, sign, chain_at, group, args, ended, grown}
use Rattle.carte_formula.specs.Machine.{State, wants, had, named, corner, half, ranged, after, close, split, end_args, next_args, next_state, parsed, moved, with}
use Rattle.carte_formula.proofs.Complete.{complete}
use Rattle.carte_formula.proofs.Sound.{sound}

abbrev Ends : State → Type 0
Ends s = (ts : List Token) × (e : Tree) × (parsed s ts ≡ Some e)

-- a token leads on to a state that can be ended
abbrev Leads : Option State → Type 0
Leads o = (u : State) × (o ≡ Some u) × Ends u

-- how a formula that stands can go on
abbrev Ways : Tree → List Frame → Type 0
Ways v S = ((e : Tree) × (ended v S ≡ Some e)) ⊎ (Leads (close v S) ⊎ Leads (split v S))

with_some : (o : Option State) (u : State) (ts : List Token) (e : Tree) → o ≡ Some u → parsed u ts ≡ Some e → with o (λ w. parsed w ts) ≡ Some e
with_some o u ts e h p = rw h p

ends_by : (s : State) (t : Token) → Leads (next_state s t) → Ends s
ends_by s t (u, is, (ts, e, p)) = (t ∷ ts, e, with_some (next_state s t) u ts e is p)

ends_had : (v : Tree) (S : List Frame) → Ways v S → Ends (had v S)
ends_had v S (inl (e, is)) = ([], e, is)
ends_had v S (inr (inl l)) = ends_by (had v S) rpar l
ends_had v S (inr (inr l)) = ends_by (had v S) comma l

-- how many arguments there are at least
abbrev least : Arity → ℕ
least many = 0
least (between a b) = a

abbrev is_ordered : Arity → Bool
is_ordered many = true
is_ordered (between a b) = nat_le a b

ordered : (f : Func) → is_ordered (arity f) ≡ true
ordered functions.Sum = refl
ordered _ = refl

enough_or_room : (a : Arity) (n : ℕ) → is_ordered a ≡ true → (enough_in a n ≡ true) ⊎ (room_in a n ≡ true)
enough_or_room many n h = inl refl
enough_or_room (between a b) n h = grind (arith, nat_tests)

enough_at_least : (a : Arity) (n : ℕ) → least a ≤ n → enough_in a n ≡ true
enough_at_least many n h = refl
enough_at_least (between a b) n h = le-leb a n h

abbrev Given : Func → List Arg → List Frame → Type 0
Given f xs S = Leads (end_args f xs S) ⊎ Leads (next_args f xs S)

closes : (f : Func) (xs : List Arg) (S : List Frame) → enough_in (arity f) (length xs) ≡ true → ((w : Tree) → Ends (after w S)) → Given f xs S
closes f xs S h go = inl (after (called_tree f xs) S, rw h refl, go (called_tree f xs))

splits : (f : Func) (xs : List Arg) (S : List Frame) → room_in (arity f) (length xs) ≡ true → Given f (xs ++ one (number (pos 0)) ∷ []) S → Given f xs S
splits f xs S h g = inr (wants (args f xs ∷ S), rw h refl, (digits (pos 0) ∷ (ends_had (number (pos 0)) (args f xs ∷ S) (inr g)).0, (ends_had (number (pos 0)) (args f xs ∷ S) (inr g)).1, (ends_had (number (pos 0)) (args f xs ∷ S) (inr g)).2))

-- arguments can be ended, with as many more as are missing
given : (k : ℕ) (f : Func) (xs : List Arg) (S : List Frame) → least (arity f) ≤ length xs + k → ((w : Tree) → Ends (after w S)) → Given f xs S
given zero f xs S h go = closes f xs S (enough_at_least (arity f) (length xs) (omega arith)) go
given (suc k) f xs S h go =
    elim (enough_or_room (arity f) (length xs) (ordered f)) [
      | inl e ↦ closes f xs S e go
      | inr r ↦ splits f xs S r (given k f (xs ++ one (number (pos 0)) ∷ []) S (simp length-append (omega arith)) go)
    ]

ways : (S : List Frame) (v : Tree) → Ways v S × Ends (after v S)
ways [] v = (inl (v, refl), ([], v, refl))
ways (sign b ∷ S) v = ways S (signed b v)
ways (chain_at l e done p ∷ S) v = ((ways S (chain l e (steps_of (grown done p v)))).0, ends_had v (chain_at l e done p ∷ S) ((ways S (chain l e (steps_of (grown done p v)))).0))
ways (group ∷ S) v = let w : Ways v (group ∷ S) = inr (inl (after v S, refl, (ways S v).1)) in (w, ends_had v (group ∷ S) w)
ways (args f xs ∷ S) v =
    let w : Ways v (args f xs ∷ S) = inr (given (least (arity f)) f (xs ++ one v ∷ []) S (omega arith) (λ u. (ways S u).1)) in (w, ends_had v (args f xs ∷ S) w)

ends_wants : (S : List Frame) → Ends (wants S)
ends_wants S = ends_by (wants S) (digits (pos 0)) (after (number (pos 0)) S, refl, (ways S (number (pos 0))).1)

ends_corner : (k : List ℕ) (f : Func) (xs : List Arg) (S : List Frame) → Ways (ref k) (args f xs ∷ S) → Ends (corner k f xs S)
ends_corner k f xs S (inl (e, is)) = absurd (let z : ⊥ = cc in z)
ends_corner k f xs S (inr (inl l)) = ends_by (corner k f xs S) rpar l
ends_corner k f xs S (inr (inr l)) = ends_by (corner k f xs S) comma l

ends_given : (a : Area) (f : Func) (xs : List Arg) (S : List Frame) → Given f (xs ++ cells a ∷ []) S → Ends (ranged a f xs S)
ends_given a f xs S (inl l) = ends_by (ranged a f xs S) rpar l
ends_given a f xs S (inr l) = ends_by (ranged a f xs S) comma l

ends_ranged : (a : Area) (f : Func) (xs : List Arg) (S : List Frame) → Ends (ranged a f xs S)
ends_ranged a f xs S = ends_given a f xs S (given (least (arity f)) f (xs ++ cells a ∷ []) S (omega arith) (λ u. (ways S u).1))

ends : (s : State) → Ends s
ends (wants S) = ends_wants S
ends (had v S) = ends_had v S (ways S v).0
ends (named f S) = ends_by (named f S) lpar (wants (args f [] ∷ S), refl, ends_wants (args f [] ∷ S))
ends (corner k f xs S) = ends_corner k f xs S (ways (args f xs ∷ S) (ref k)).0
ends (half k f xs S) = ends_by (half k f xs S) (cell k) (ranged (area_of k k) f xs S, refl, ends_ranged (area_of k k) f xs S)
ends (ranged a f xs S) = ends_ranged a f xs S

with_moved : (o : Option State) (s : State) (prefix rest : List Token) (e : Tree) → ((u : State) → moved u prefix ≡ Some s → parsed u (prefix ++ rest) ≡ Some e)
    → with o (λ u. moved u prefix) ≡ Some s → with o (λ u. parsed u (prefix ++ rest)) ≡ Some e
with_moved None s prefix rest e go h = absurd (let z : ⊥ = cc in z)
with_moved (Some u) s prefix rest e go h = go u h

parsed_moved : (u s : State) (prefix rest : List Token) (e : Tree) → moved u prefix ≡ Some s → parsed s rest ≡ Some e → parsed u (prefix ++ rest) ≡ Some e
parsed_moved u s [] rest e m p = let h : u ≡ s = cc in rw h p
parsed_moved u s (t ∷ prefix) rest e m p = with_moved (next_state u t) s prefix rest e (λ w k. parsed_moved w s prefix rest e k p) m

pub viable : (prefix : List Token) (s : State) → moved (wants []) prefix ≡ Some s → Viable prefix
viable prefix s m = ((ends s).0, (ends s).1, sound (prefix ++ (ends s).0) (ends s).1 (parsed_moved (wants []) s prefix (ends s).0 (ends s).1 m (ends s).2))

with_stuck : (o : Option State) (prefix rest : List Token) → ((u : State) → moved u prefix ≡ None → parsed u (prefix ++ rest) ≡ None)
    → with o (λ u. moved u prefix) ≡ None → with o (λ u. parsed u (prefix ++ rest)) ≡ None
with_stuck None prefix rest go h = refl
with_stuck (Some u) prefix rest go h = go u h

stuck_on : (u : State) (prefix rest : List Token) → moved u prefix ≡ None → parsed u (prefix ++ rest) ≡ None
stuck_on u [] rest m = absurd (let z : ⊥ = cc in z)
stuck_on u (t ∷ prefix) rest m = with_stuck (next_state u t) prefix rest (λ w k. stuck_on w prefix rest k) m

pub stuck : (prefix : List Token) → moved (wants []) prefix ≡ None → Viable prefix → ⊥
stuck prefix m (rest, e, h) = let p : parsed (wants []) (prefix ++ rest) ≡ Some e = complete h in let q : parsed (wants []) (prefix ++ rest) ≡ None = stuck_on (wants []) prefix rest m in cc

-- tokens spell at most one formula
pub one_tree : {ts : List Token} {d e : Tree} → Spells 4 ts d → Spells 4 ts e → d ≡ e
one_tree {ts} {d} {e} h k = let p : parsed (wants []) ts ≡ Some d = complete h in let q : parsed (wants []) ts ≡ Some e = complete k in cc

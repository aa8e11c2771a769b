-- The same, token by token.
use Rattle.std.specs.Prelude.{ℕ, true, false, List, [], ◌∷◌, ◌++◌, length, Option, Some, None, if◌then◌else◌}
use Rattle.carte_value.specs.Areas.{area_of}
use Rattle.carte_tree.specs.Tree.{Tree, number, text, ref, chain, Arg, one, cells, steps_of, arity, enough_in, room_in, takes_ranges, called_tree, signed}
use Rattle.carte_formula.specs.Tokens.{Op, sub, add, Func, Area, Token, digits, quoted, word, cell, func, op, lpar, rpar, comma, colon}
use Rattle.carte_formula.specs.Begun.{Frame, sign, chain_at, group, args, grown, joined, ended}

pub data State : Type 0 where
  wants : List Frame → State  -- an operand comes
  had : Tree → List Frame → State  -- an operand stands
  named : Func → List Frame → State  -- a function's name stands
  corner : List ℕ → Func → List Arg → List Frame → State  -- a cell begins an argument that may be a range
  half : List ℕ → Func → List Arg → List Frame → State  -- and a colon follows
  ranged : Area → Func → List Arg → List Frame → State  -- a range stands

-- an operand is whole, with its signs
abbrev pub after : Tree → List Frame → State
after v [] = had v []
after v (sign b ∷ S) = after (signed b v) S
after v (chain_at l e done p ∷ S) = had v (chain_at l e done p ∷ S)
after v (group ∷ S) = had v (group ∷ S)
after v (args f xs ∷ S) = had v (args f xs ∷ S)

abbrev pub cell_at : List ℕ → List Frame → State
cell_at k [] = had (ref k) []
cell_at k (sign b ∷ S) = after (signed b (ref k)) S
cell_at k (chain_at l e done p ∷ S) = had (ref k) (chain_at l e done p ∷ S)
cell_at k (group ∷ S) = had (ref k) (group ∷ S)
cell_at k (args f xs ∷ S) = if takes_ranges f then corner k f xs S else had (ref k) (args f xs ∷ S)

abbrev pub sign_at : Op → List Frame → Option State
sign_at sub S = Some (wants (sign true ∷ S))
sign_at add S = Some (wants (sign false ∷ S))
sign_at _ S = None

abbrev pub begin : Token → List Frame → Option State
begin (digits n) S = Some (after (number n) S)
begin (quoted k) S = Some (after (text k) S)
begin (word k) S = Some (after (ref k) S)
begin (cell k) S = Some (cell_at k S)
begin (func f) S = Some (named f S)
begin (op o) S = sign_at o S
begin lpar S = Some (wants (group ∷ S))
begin _ S = None

abbrev pub end_args : Func → List Arg → List Frame → Option State
end_args f xs S = if enough_in (arity f) (length xs) then Some (after (called_tree f xs) S) else None

abbrev pub next_args : Func → List Arg → List Frame → Option State
next_args f xs S = if room_in (arity f) (length xs) then Some (wants (args f xs ∷ S)) else None

abbrev pub close : Tree → List Frame → Option State
close v [] = None
close v (sign b ∷ S) = close (signed b v) S
close v (chain_at l e done p ∷ S) = close (chain l e (steps_of (grown done p v))) S
close v (group ∷ S) = Some (after v S)
close v (args f xs ∷ S) = end_args f (xs ++ one v ∷ []) S

abbrev pub split : Tree → List Frame → Option State
split v [] = None
split v (sign b ∷ S) = split (signed b v) S
split v (chain_at l e done p ∷ S) = split (chain l e (steps_of (grown done p v))) S
split v (group ∷ S) = None
split v (args f xs ∷ S) = next_args f (xs ++ one v ∷ []) S

abbrev pub go_on : Token → Tree → List Frame → Option State
go_on (op o) v S = Some (wants (joined o v S))
go_on rpar v S = close v S
go_on comma v S = split v S
go_on _ v S = None

abbrev pub at_name : Token → Func → List Frame → Option State
at_name lpar f S = Some (wants (args f [] ∷ S))
at_name _ f S = None

abbrev pub at_corner : Token → List ℕ → Func → List Arg → List Frame → Option State
at_corner colon k f xs S = Some (half k f xs S)
at_corner (op o) k f xs S = go_on (op o) (ref k) (args f xs ∷ S)
at_corner rpar k f xs S = go_on rpar (ref k) (args f xs ∷ S)
at_corner comma k f xs S = go_on comma (ref k) (args f xs ∷ S)
at_corner _ k f xs S = None

abbrev pub at_half : Token → List ℕ → Func → List Arg → List Frame → Option State
at_half (cell j) k f xs S = Some (ranged (area_of k j) f xs S)
at_half _ k f xs S = None

abbrev pub at_range : Token → Area → Func → List Arg → List Frame → Option State
at_range comma a f xs S = next_args f (xs ++ cells a ∷ []) S
at_range rpar a f xs S = end_args f (xs ++ cells a ∷ []) S
at_range _ a f xs S = None

abbrev pub next_state : State → Token → Option State
next_state (wants S) t = begin t S
next_state (had v S) t = go_on t v S
next_state (named f S) t = at_name t f S
next_state (corner k f xs S) t = at_corner t k f xs S
next_state (half k f xs S) t = at_half t k f xs S
next_state (ranged a f xs S) t = at_range t a f xs S

abbrev pub end_of : State → Option Tree
end_of (had v S) = ended v S
end_of _ = None

-- with an option's value, if there is one
abbrev pub with : {A B : Type 0} → Option A → (A → Option B) → Option B
with None go = None
with (Some a) go = go a

-- the state after some tokens, and the formula that all tokens spell
abbrev pub moved : State → List Token → Option State
moved s [] = Some s
moved s (t ∷ ts) = with (next_state s t) (λ u. moved u ts)

abbrev pub parsed : State → List Token → Option Tree
parsed s [] = end_of s
parsed s (t ∷ ts) = with (next_state s t) (λ u. parsed u ts)

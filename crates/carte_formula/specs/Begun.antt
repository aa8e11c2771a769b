-- What of a formula is begun and not ended, and how an operator and the text's end end it.
use Rattle.std.specs.Prelude.{ℕ, Bool, List, [], ◌∷◌, ◌++◌, ◌+◌, ◌==◌, nat_lt, Option, Some, None, if◌then◌else◌}
use Rattle.carte_tree.specs.Tree.{level_of, rank, Tree, chain, Arg, Term, steps_of, signed}
use Rattle.carte_tree.specs.declared.expr.Func.{Func}
use Rattle.carte_tree.specs.declared.expr.Level.{Level}
use Rattle.carte_tree.specs.declared.expr.Op.{Op}

-- the newest stands first in lists
pub data Frame : Type 0 where
  sign : Bool → Frame
  chain_at : Level → Tree → List Term → Op → Frame
  group : Frame
  args : Func → List Arg → Frame

-- how many groups, calls and unary signs are begun
abbrev pub depth_of : List Frame → ℕ
depth_of [] = 0
depth_of (sign b ∷ S) = depth_of S + 1
depth_of (chain_at l e done p ∷ S) = depth_of S
depth_of (group ∷ S) = depth_of S + 1
depth_of (args f xs ∷ S) = depth_of S + 1

-- the steps of a chain, with one more
abbrev pub grown : List Term → Op → Tree → List Term
grown done p v = done ++ record { op = p; operand = v } ∷ []

-- an operator follows an operand: the chains that bind tighter are whole
abbrev pub joined : Op → Tree → List Frame → List Frame
joined o v [] = chain_at (level_of o) v [] o ∷ []
joined o v (sign b ∷ S) = joined o (signed b v) S
joined o v (chain_at l e done p ∷ S) =
    if nat_lt (rank l) (rank (level_of o)) then joined o (chain l e (steps_of (grown done p v))) S
    else if rank l == rank (level_of o) then chain_at l e (grown done p v) o ∷ S
    else chain_at (level_of o) v [] o ∷ chain_at l e done p ∷ S
joined o v (group ∷ S) = chain_at (level_of o) v [] o ∷ group ∷ S
joined o v (args f xs ∷ S) = chain_at (level_of o) v [] o ∷ args f xs ∷ S

-- the text ends behind an operand
abbrev pub ended : Tree → List Frame → Option Tree
ended v [] = Some v
ended v (sign b ∷ S) = ended (signed b v) S
ended v (chain_at l e done p ∷ S) = ended (chain l e (steps_of (grown done p v))) S
ended v (group ∷ S) = None
ended v (args f xs ∷ S) = None

-- The code's stack: what its frames stand for, how deep a place is, and what its newest frame is.
use Rattle.std.specs.Prelude.{ℕ, Bool, true, false, List, [], ◌∷◌, length, map, ◌+◌, ◌++◌, ◌==◌, nat_lt, Option, Some, None, Result, Ok, Err, ◌≡◌, if◌then◌else◌, Vec}
use Rattle.std.specs.Global.{Global}
use Rattle.carte_tree.specs.Tree.{Tree, Arg, rank, takes_ranges}
use Rattle.carte_tree.specs.Code.{tree_of, terms_of, args_trees}
use Rattle.carte_tree.specs.declared.expr.Arg.{Arg as CodeArg}
use Rattle.carte_tree.specs.declared.expr.Expr.{Expr}
use Rattle.carte_tree.specs.declared.expr.Func.{Func}
use Rattle.carte_tree.specs.declared.expr.Level.{Level}
use Rattle.carte_name.specs.declared.NoMemory.{NoMemory}
use Rattle.carte_formula.specs.Begun.{Frame as Begun, sign, chain_at, group, args}
use Rattle.carte_formula.specs.declared.frames.Joint.{Joint}
use Rattle.carte_formula.specs.declared.frames.OpenChain.{OpenChain}
use Rattle.carte_formula.specs.declared.frames.Joint.TheVariants as joints
use Rattle.carte_formula.specs.declared.frames.Frame.{Frame}
use Rattle.carte_formula.specs.declared.frames.Frame.TheVariants as code

abbrev pub open_frame : OpenChain → Begun
open_frame c = chain_at c.level (tree_of c.first) (terms_of c.steps.items) c.last

abbrev pub frame_of : Frame → Begun
frame_of (code.Sign b) = sign b
frame_of (code.Chain c) = open_frame c
frame_of code.Group = group
frame_of (code.Call f xs) = args f (args_trees xs.items)

abbrev pub frames_of : List Frame → List Begun
frames_of = map frame_of

abbrev pub weight_of : Frame → ℕ
weight_of (code.Sign b) = 1
weight_of (code.Chain c) = 0
weight_of code.Group = 1
weight_of (code.Call f xs) = 1

abbrev pub depth_in : List Frame → ℕ
depth_in [] = 0
depth_in (f ∷ S) = depth_in S + weight_of f

abbrev pub NoSign : List Frame → Type 0
NoSign (code.Sign b ∷ S) = ⊥
NoSign _ = Unit {0}

-- the newest frame is taken away where it is a sign
abbrev pub PopsSign : List Frame → List Frame → Option Bool → Type 0
PopsSign old new (Some b) = old ≡ code.Sign b ∷ new
PopsSign old new None = (new ≡ old) × NoSign old

-- the newest frame is taken away where it is a call
abbrev pub PopsCall : List Frame → List Frame → Option (Func × Vec CodeArg Global) → Type 0
PopsCall old new (Some p) = old ≡ code.Call p.0 p.1 ∷ new
PopsCall old new None = new ≡ old

-- where it is a chain
abbrev pub PopsChain : List Frame → List Frame → Option OpenChain → Type 0
PopsChain old new (Some c) = old ≡ code.Chain c ∷ new
PopsChain old new None = new ≡ old

-- nothing is begun
abbrev pub is_empty_at : List Frame → Bool
is_empty_at [] = true
is_empty_at (f ∷ S) = false

abbrev pub is_chained_at : List Frame → Bool
is_chained_at (code.Chain c ∷ S) = true
is_chained_at _ = false

abbrev pub is_called_at : List Frame → Bool
is_called_at (code.Call f xs ∷ S) = true
is_called_at _ = false

abbrev pub is_signed_at : List Frame → Bool
is_signed_at (code.Sign b ∷ S) = true
is_signed_at _ = false

-- a call's function and how many arguments it has with one more
abbrev pub called_by : Frame → Option (Func × ℕ)
called_by (code.Call f xs) = Some (f, length xs.items + 1)
called_by _ = None

abbrev pub called_at : List Frame → Option (Func × ℕ)
called_at [] = None
called_at (f ∷ S) = called_by f

-- the newest frame is a call among whose arguments a range may stand
abbrev pub may_range : List Frame → Bool
may_range (code.Call f xs ∷ S) = takes_ranges f
may_range _ = false

abbrev pub chain_joint : Level → Level → Joint
chain_joint c l = if nat_lt (rank c) (rank l) then joints.Ends else if rank c == rank l then joints.GoesOn else joints.Begins

-- what an operator of a level does with a frame
abbrev pub joint_at : Level → Frame → Joint
joint_at l (code.Sign b) = joints.Ends
joint_at l (code.Chain c) = chain_joint c.level l
joint_at l _ = joints.Begins

abbrev pub joint_of : Level → List Frame → Joint
joint_of l [] = joints.Begins
joint_of l (f ∷ S) = joint_at l f

-- the newest frame, a call, has an argument more
abbrev pub with_arg : Arg → List Begun → List Begun
with_arg a (args f xs ∷ S) = args f (xs ++ a ∷ []) ∷ S
with_arg a S = S

-- a call answered the formula that is ended, or that none is, unless memory ran out
abbrev pub EndsTo : Result (Option Expr) NoMemory → Option Tree → Type 0
EndsTo (Ok None) o = o ≡ None
EndsTo (Ok (Some e)) o = o ≡ Some (tree_of e)
EndsTo (Err e) o = Unit {0}

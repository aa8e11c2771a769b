-- The machine's states as the code holds them.
use Rattle.std.specs.Prelude.{ℕ, Bool, true, false, nat_lt, List, [], ◌∷◌, ◌+◌, ◌++◌, Option, Some, None, Result, Ok, Err, ◌≡◌, if◌then◌else◌}
use Rattle.carte_name.specs.declared.NoMemory.{NoMemory}
use Rattle.carte_tree.specs.Tree.{Tree, Arg}
use Rattle.carte_tree.specs.Code.{tree_of, args_trees}
use Rattle.carte_formula.specs.Begun.{Frame, args}
use Rattle.carte_formula.specs.Frames.{frames_of}
use Rattle.carte_formula.specs.Machine.{State, wants, had, named, corner, half, ranged, next_args, after}
use Rattle.carte_formula.specs.Reading.{FormulaFault, BadSyntax, TooDeep, NoMemory as OutOfMemory, depth}
use Rattle.carte_tree.specs.declared.expr.Expr.{Expr}
use Rattle.carte_formula.specs.declared.frames.Frame.{Frame as CodeFrame}
use Rattle.carte_formula.specs.declared.parser.states.State.{State as CodeState}
use Rattle.carte_formula.specs.declared.parser.states.State.TheVariants as states
use Rattle.carte_formula.specs.declared.parser.states.Range.{Range}
use Rattle.carte_formula.specs.declared.parser.states.Range.TheVariants as ranges
use Rattle.carte_formula.specs.declared.parser.states.Parser.{Parser}

-- a state with no range is never reached
abbrev pub range_of : Range → List CodeFrame → State
range_of ranges.Nothing S = wants (frames_of S)
range_of (ranges.Corner k f xs) S = corner k f (args_trees xs.items) (frames_of S)
range_of (ranges.Half k f xs) S = half k f (args_trees xs.items) (frames_of S)
range_of (ranges.Whole a f xs) S = ranged a f (args_trees xs.items) (frames_of S)

abbrev pub range_depth : Range → ℕ → ℕ
range_depth ranges.Nothing n = n
range_depth _ n = n + 1

abbrev pub state_of : CodeState → Expr → Range → List CodeFrame → State
state_of states.Wants e r S = wants (frames_of S)
state_of states.Had e r S = had (tree_of e) (frames_of S)
state_of (states.Named f) e r S = named f (frames_of S)
state_of states.InRange e r S = range_of r S

-- an operand comes
abbrev pub is_wanting : CodeState → Range → Bool
is_wanting states.Wants r = true
is_wanting states.InRange ranges.Nothing = true
is_wanting _ r = false

-- an operand follows that is one token and no cell
abbrev pub operand_at : Parser → Tree → Option State
operand_at p v = if is_wanting p.state p.range then Some (after v (frames_of p.stack.frames.items)) else None

abbrev pub reached : Parser → State
reached p = state_of p.state p.operand p.range p.stack.frames.items

-- the same with an operand that stands
abbrev pub holding : Parser → Expr → Parser
holding p e = record { state = states.Had; operand = e; range = p.range; stack = p.stack }

-- an argument behind those of the newest frame, a call, and another may follow
abbrev pub args_next : Arg → List Frame → Option State
args_next a (args f xs ∷ S) = next_args f (xs ++ a ∷ []) S
args_next a _ = None

-- whether a call led to a state, and to which
abbrev pub OptionGoesTo : Bool → Parser → Option State → Type 0
OptionGoesTo false p o = o ≡ None
OptionGoesTo true p o = o ≡ Some (reached p)

abbrev pub GoesTo : Result Bool NoMemory → Parser → Option State → Type 0
GoesTo (Ok b) p o = OptionGoesTo b p o
GoesTo (Err e) p o = Unit {0}

-- what comes of a token at a place, where the machine goes to o
abbrev pub StepsTo : Result (Unit {0}) FormulaFault → Parser → Option State → ℕ → Type 0
StepsTo (Ok _) p o place = (o ≡ Some (reached p)) × (nat_lt 64 (depth (reached p)) ≡ false)
StepsTo (Err (BadSyntax at)) p o place = (o ≡ None) × (at ≡ place)
StepsTo (Err (TooDeep at)) p o place = (u : State) × (o ≡ Some u) × (nat_lt 64 (depth u) ≡ true) × (at ≡ place)
StepsTo (Err OutOfMemory) p o place = Unit {0}
StepsTo (Err _) p o place = ⊥

-- the same for a token behind which an operand stands, and isn't put away yet
abbrev pub StandsTo : Result Expr FormulaFault → Parser → Option State → ℕ → Type 0
StandsTo (Ok e) p o place = StepsTo (Ok tt) (holding p e) o place
StandsTo (Err f) p o place = StepsTo (Err f) p o place

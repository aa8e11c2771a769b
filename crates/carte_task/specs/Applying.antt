-- What one instruction does to the stack.
use Rattle.std.specs.Prelude.{ℕ, List, ◌≡◌, Option, Some, None, Result, Ok, Err}
use Rattle.carte_name.specs.declared.kind.Kind.{Kind}
use Rattle.carte_value.specs.declared.value.Value.{Value}
use Rattle.carte_value.specs.Asks.{Asks}
use Rattle.carte_tree.specs.Texts.{joined}
use Rattle.carte_task.specs.declared.code.Instr.{Instr}
use Rattle.carte_task.specs.declared.code.Next.{Next}
use Rattle.carte_task.specs.declared.code.Next.TheVariants.{Behind, Joined}
use Rattle.carte_task.specs.declared.code.Pending.{Pending}
use Rattle.carte_task.specs.Wanting.{names_wanted}
use Rattle.carte_task.specs.Code.{newest, put, pushed, done_by, exec}

-- what goes on once the names are looked up
abbrev pub goes : Next → (ℕ → List Value → Asks Value) → List Value → Asks Value
goes (Behind n) go ws = go n ws
goes (Joined n) go ws = go 0 (put n ws (joined (newest n ws)))

-- the instruction means to look these names up onto the new stack, and to go on so; or to go on with the next one
abbrev pub Applies : {E : Type 0} → Kind → Instr → List Value → List Value → Result (Option Pending) E → Type 0
Applies kind c old new (Ok (Some p)) = (go : ℕ → List Value → Asks Value) → done_by kind c old go ≡ pushed (names_wanted p.wanted) new (goes p.next go)
Applies kind c old new (Ok None) = (go : ℕ → List Value → Asks Value) → done_by kind c old go ≡ go 0 new
Applies kind c old new (Err e) = new ≡ old

-- what instructions ask for, once names are looked up
abbrev pub means : Kind → List Instr → List Value → List (List ℕ) → Next → Asks Value
means kind cs vs ks next = pushed ks vs (goes next (λ n ws. exec kind n cs ws))

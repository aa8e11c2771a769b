-- What a task has still to ask, and what a drive of it leaves.
use Rattle.std.specs.Prelude.{ℕ, ◌+◌, ◌<◌, Bool, true, false, List, [], ◌≡◌, Option, Result, length, drop}
use Rattle.carte_name.specs.declared.kind.Kind.{Kind}
use Rattle.carte_value.specs.declared.value.Value.{Value}
use Rattle.carte_value.specs.Truths.{Truth}
use Rattle.carte_value.specs.Asks.{Asks, done}
use Rattle.carte_value.specs.Once.{Answers, once}
use Rattle.carte_effect.specs.declared.effect.Halt.{Halt}
use Rattle.carte_task.specs.declared.code.Instr.{Instr}
use Rattle.carte_task.specs.declared.progress.Progress.{Progress}
use Rattle.carte_task.specs.Wanting.{names_wanted}
use Rattle.carte_task.specs.Code.{pushed, exec, top}
use Rattle.carte_task.specs.Answered.{Along, Halted}
use Rattle.carte_task.specs.Applying.{goes}

abbrev pub answers_in : Progress → Answers
answers_in p = p.answers.entries

-- the names that are still to be looked up first
abbrev pub pending : Progress → List (List ℕ)
pending p = drop p.looked (names_wanted p.wanted)

-- first these names, and then what goes on over the stack; each name once, and none that was answered
abbrev pub waits : Progress → (List Value → Asks Value) → Asks Value
waits p go = once (answers_in p) (pushed (pending p) p.values.items go)

abbrev pub rest_in : Kind → List Instr → Progress → Asks Value
rest_in kind code p = waits p (goes p.next (λ n vs. exec kind n (drop p.at code) vs))

-- an instruction was done, or there was none
abbrev pub Stepped : Kind → List Instr → Progress → Progress → Bool → Type 0
Stepped kind code p q true = (p.at < length code) × (q.at ≡ p.at + 1)
Stepped kind code p q false = rest_in kind code q ≡ done (top q.values.items)

-- one instruction further, or before a name that halted it
abbrev pub Goes : {S : Type 0} → Kind → List Instr → Truth → (List ℕ → S → Type 0) → Option Answers → Option Answers → Progress → Progress → Result Bool (Halt S) → Type 0
Goes kind code t own log0 log p q result = Along t log0 log (answers_in p) (rest_in kind code p) (answers_in q) (rest_in kind code q) × Halted {B = Bool} t own (rest_in kind code q) (Stepped kind code p q) result

-- names were looked up, whatever comes then
abbrev pub Looked : {S : Type 0} → Truth → (List ℕ → S → Type 0) → Option Answers → Option Answers → Progress → Progress → Result (Unit {0}) (Halt S) → Type 0
Looked t own log0 log p q result = (go : List Value → Asks Value) → Along t log0 log (answers_in p) (waits p go) (answers_in q) (waits q go) × Halted {B = Unit {0}} t own (waits q go) (λ u. pending q ≡ []) result

-- a drive ended with the newest value, or stopped at what is left
abbrev pub Proceeds : {S : Type 0} → Kind → List Instr → Truth → (List ℕ → S → Type 0) → Option Answers → Option Answers → Progress → Progress → Result (Unit {0}) (Halt S) → Type 0
Proceeds kind code t own log0 log p q result = Along t log0 log (answers_in p) (rest_in kind code p) (answers_in q) (rest_in kind code q) × Halted {B = Unit {0}} t own (rest_in kind code q) (λ u. rest_in kind code q ≡ done (top q.values.items)) result

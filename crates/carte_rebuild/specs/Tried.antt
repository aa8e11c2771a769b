-- What a drive of checks comes to.
use Rattle.std.specs.Prelude.{ℕ, ◌≡◌, Bool, true, List, [], Option, Some, None, Result, Ok, Err}
use Rattle.carte_value.specs.Truths.{Truth}
use Rattle.carte_value.specs.Asks.{Asks, done}
use Rattle.carte_value.specs.Once.{Answers}
use Rattle.carte_effect.specs.declared.effect.Halt.{Halt}
use Rattle.carte_effect.specs.declared.effect.Halt.TheVariants.{Stop, NoMemory}
use Rattle.carte_effect.specs.declared.outcome.Made.{Made}
use Rattle.carte_effect.specs.declared.outcome.Made.TheVariants.{Reused}
use Rattle.carte_effect.specs.Outcomes.{Outcome}
use Rattle.carte_task.specs.Answered.{Led, StopsAt}
use Rattle.carte_task.specs.Checking.{Checking}
use Rattle.carte_rebuild.specs.Trying.{tries}

-- one holds, or none does and none is left; or a link has no value, or there was no memory. Whatever comes behind the checks.
abbrev pub Tried : {S : Type 0} → Truth → (List ℕ → S → Type 0) → Option Answers → Option Answers → List Checking → List Checking → Result (Option Outcome) (Halt S) → Type 0
Tried t own log0 log cs ds (Ok (Some o)) = (m : Asks Made) → (further : Answers) × Led t log0 log (tries cs m) further (done (Reused o))
Tried t own log0 log cs ds (Ok None) = (ds ≡ []) × ((m : Asks Made) → (further : Answers) × Led t log0 log (tries cs m) further m)
Tried t own log0 log cs ds (Err (Stop s)) = (m : Asks Made) → (further : Answers) × Led t log0 log (tries cs m) further (tries ds m) × StopsAt t own (tries ds m) s
Tried t own log0 log cs ds (Err NoMemory) = (m : Asks Made) → (further : Answers) × Led t log0 log (tries cs m) further (tries ds m)

-- an earlier end is found where checks were open alone
abbrev pub FoundBy : {E : Type 0} → Bool → Result (Option Outcome) E → Type 0
FoundBy open_checks (Ok (Some o)) = open_checks ≡ true
FoundBy open_checks (Ok None) = Unit {0}
FoundBy open_checks (Err e) = Unit {0}

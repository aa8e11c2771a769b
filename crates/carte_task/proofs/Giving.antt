-- What a drive of a machine gives as a job.
use Rattle.std.proofs.Common.{ℕ, List, Option, Ok, Err}
use Rattle.carte_value.specs.Truths.{Truth}
use Rattle.carte_value.specs.Once.{Answers}
use Rattle.carte_effect.specs.declared.effect.Halt.{Halt}
use Rattle.carte_effect.specs.declared.effect.Halt.TheVariants.{Stop, NoMemory}
use Rattle.carte_effect.specs.declared.outcome.Made.TheVariants.{Ran}
use Rattle.carte_effect.specs.Outcomes.{Outcome}
use Rattle.carte_task.specs.Machines.{State, GoesOn, Drove}
use Rattle.carte_effect.specs.Jobs.{Gave}
use Rattle.carte_task.specs.MachineJobs.{GoesBy, MachineGives}

by_further : (t : Truth) (log0 log : Option Answers) (p q : State) → (on : GoesOn t log0 log p q) → GoesBy t on.along.further p q
by_further t log0 log p q on = record { key = on.key; whole = on.whole; answers = on.along.answers; known = on.along.led.known; went = on.along.led.went }

pub ran : {J S : Type 0} (state : J → State) (t : Truth) (own : List ℕ → S → Type 0) (log0 log : Option Answers) (p q : J) (o : Outcome) → Drove t own log0 log (state p) (state q) (Ok o) → Gave (λ m u a step n. MachineGives (state m) u a step (state n)) t own log0 log p q (Ok (Ran o))
ran state t own log0 log p q o (on, end, ended) = record { further = on.along.further; known = on.along.led.known; logged = on.along.led.logged; gave = (by_further t log0 log (state p) (state q) on, end) }

pub halted : {J S : Type 0} (state : J → State) (t : Truth) (own : List ℕ → S → Type 0) (log0 log : Option Answers) (p q : J) (h : Halt S) → Drove t own log0 log (state p) (state q) (Err h) → Gave (λ m u a step n. MachineGives (state m) u a step (state n)) t own log0 log p q (Err h)
halted state t own log0 log p q (Stop s) (on, stops, ended) = record {
  further = on.along.further;
  known = on.along.led.known;
  logged = on.along.led.logged;
  gave = (stops.name, stops.none, stops.own_stop, (by_further t log0 log (state p) (state q) on, (stops.go, stops.is), stops.none));
}
halted state t own log0 log p q NoMemory (on, any, ended) = record { further = on.along.further; known = on.along.led.known; logged = on.along.led.logged; gave = by_further t log0 log (state p) (state q) on }

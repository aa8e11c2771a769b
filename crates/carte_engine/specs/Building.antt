-- What a build comes to: a plan, and its commits.
use Rattle.std.specs.Prelude.{ℕ, ◌≡◌, ◌⊎◌, List, Result, Ok, Err}
use Rattle.carte_state.specs.Around.{OverDisk}
use Rattle.carte_book.specs.Book.{Book}
use Rattle.carte_sound.specs.Held.{How}
use Rattle.carte_state.specs.Applying.{IsStill}
use Rattle.carte_state.specs.States.{Stand, any_in}
use Rattle.carte_state.specs.declared.fault.ApplyFault.{ApplyFault}
use Rattle.carte_engine.specs.declared.answer.Answer.{Answer}
use Rattle.carte_engine.specs.declared.answer.Answer.TheVariants as answer
use Rattle.carte_engine.specs.declared.answer.Built.{Built}
use Rattle.carte_engine.specs.declared.answer.Plan.{Plan}
use Rattle.carte_engine.specs.declared.fault.BuildFault.{BuildFault}
use Rattle.carte_engine.specs.declared.fault.BuildFault.TheVariants as fault
use Rattle.carte_engine.specs.declared.scheduler.Scheduler.{Scheduler}
use Rattle.carte_engine.specs.Answers.{IsPlan}
use Rattle.carte_engine.specs.Committing.{CommitsAll}
use Rattle.carte_engine.specs.Faults.{fault_of}
use Rattle.carte_engine.specs.Versions.{Under}

-- an answer as a result
abbrev pub answered : Answer → Result Built BuildFault
answered (answer.Built built) = Ok built
answered (answer.Refused reason runs) = Err (fault.Refused reason)

-- where the batches of the plan were put, the plan's answer; else why they weren't, or not all
abbrev pub answered_behind : Answer → Result (Unit {0}) ApplyFault → Result Built BuildFault
answered_behind a (Ok done) = answered a
answered_behind a (Err why) = Err (fault_of why)

-- There is a plan that is right under whatever history what was kept is sound for, whose answer is as `shown` says whatever was kept, and its batches were put, one after another, or not all of them. Or there was no memory for a plan.
abbrev pub Builds : Scheduler → How → Book → List (List ℕ) → (Answer → Type 0) → OverDisk → Stand → Stand → Result Built BuildFault → Type 0
Builds s h b targets shown d old new result =
    ((p : Plan) × (applied : Result (Unit {0}) ApplyFault) × Under (any_in old) b (IsPlan s h (any_in old) b targets p.batches.items p.answer)
    × shown p.answer × CommitsAll d old new p.batches.items applied × (result ≡ answered_behind p.answer applied))
    ⊎ ((result ≡ Err fault.NoMemory) × IsStill d old new)

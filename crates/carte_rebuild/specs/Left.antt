-- What is left of a job of checks and a task.
use Rattle.std.specs.Prelude.{ℕ, ◌≡◌, Bool, true, false, List, [], ◌⊎◌}
use Rattle.std.proofs.Common.{inl, inr}
use Rattle.carte_value.specs.Asks.{Asks}
use Rattle.carte_effect.specs.declared.outcome.Made.{Made}
use Rattle.carte_task.specs.declared.machine.Machine.{Machine}
use Rattle.carte_task.specs.Machines.{state_of}
use Rattle.carte_task.specs.Checking.{Checking}
use Rattle.carte_rebuild.specs.declared.recipe.Recipe.{Recipe}
use Rattle.carte_rebuild.specs.declared.tries.Stage.{Stage}
use Rattle.carte_rebuild.specs.declared.tries.Stage.TheVariants.{Checks, Task}
use Rattle.carte_rebuild.specs.declared.tries.Tries.{Tries}
use Rattle.carte_rebuild.specs.Recipes.{asks_in}
use Rattle.carte_rebuild.specs.Trying.{machine_left, task_left, tries}

abbrev pub open_at : Stage → List Checking
open_at (Checks cs r) = cs
open_at (Task m) = []

-- the checks whose verdict is open
abbrev pub open_in : Tries → List Checking
open_in p = open_at p.stage.value

abbrev pub task_at : Stage → Recipe ⊎ Machine
task_at (Checks cs r) = inl r
task_at (Task m) = inr m

-- what the task is made of, or the task
abbrev pub task_in : Tries → Recipe ⊎ Machine
task_in p = task_at p.stage.value

abbrev pub key_in : Recipe ⊎ Machine → List ℕ
key_in (inl r) = r.key
key_in (inr m) = (state_of m).key

abbrev pub is_made : Recipe ⊎ Machine → Bool
is_made (inl r) = false
is_made (inr m) = true

-- what is left of the task
abbrev pub behind : Recipe ⊎ Machine → Asks Made
behind (inl r) = task_left r.key (asks_in r)
behind (inr m) = machine_left (state_of m)

abbrev pub name_of : Tries → List ℕ
name_of p = key_in (task_in p)

abbrev pub is_started : Tries → Bool
is_started p = is_made (task_in p)

abbrev pub left_of : Tries → Asks Made
left_of p = tries (open_in p) (behind (task_in p))

-- the task is there, with all that was left of it
pub record IsBegun (p q : Tries) : Type 0 where
  pub machine : Machine
  pub stage : q.stage.value ≡ Task machine
  pub left : behind (task_in p) ≡ machine_left (state_of machine)
  pub key : name_of p ≡ (state_of machine).key

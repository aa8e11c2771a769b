-- A job whose task is started.
use Rattle.std.proofs.Common.{◌≡◌, ap, sym, ◌∙◌, inl}
use Rattle.carte_task.specs.declared.machine.Machine.{Machine}
use Rattle.carte_task.specs.Machines.{State, state_of, started}
use Rattle.carte_rebuild.specs.declared.recipe.Recipe.{Recipe}
use Rattle.carte_rebuild.specs.declared.tries.Stage.{Stage}
use Rattle.carte_rebuild.specs.declared.tries.Stage.TheVariants.{Task}
use Rattle.carte_rebuild.specs.declared.tries.Tries.{Tries}
use Rattle.carte_rebuild.specs.Recipes.{asks_in}
use Rattle.carte_rebuild.specs.Trying.{machine_left}
use Rattle.carte_rebuild.specs.Left.{task_at, task_in, key_in, behind, IsBegun}

-- its task was made now
pub begun_now : (p q : Tries) (r : Recipe) (m : Machine) → task_in p ≡ inl r → q.stage.value ≡ Task m → state_of m ≡ started r.key (asks_in r) → IsBegun p q
begun_now p q r m made stage says = record {
  machine = m;
  stage = stage;
  left = ap behind made ∙ sym (ap machine_left says);
  key = ap key_in made ∙ ap (λ (s : State). s.key) (sym says);
}

-- or it was there
pub begun_before : (p q : Tries) (m : Machine) → p.stage.value ≡ Task m → q.stage.value ≡ Task m → IsBegun p q
begun_before p q m is stage = record {
  machine = m;
  stage = stage;
  left = ap (λ s. behind (task_at s)) is;
  key = ap (λ s. key_in (task_at s)) is;
}

-- and it is the one that goes on
pub one_task : (s : Stage) (m n : Machine) → s ≡ Task m → s ≡ Task n → m ≡ n
one_task s m n is there = cc

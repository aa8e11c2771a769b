-- Machines as jobs.
use Rattle.std.specs.Prelude.{ℕ, List, ◌++◌, ◌≡◌, Option, Some, None, Ok}
use Rattle.std.proofs.Common.{◌∙◌}
use Rattle.carte_value.specs.declared.value.Value.{Value}
use Rattle.carte_value.specs.Truths.{Truth, Among}
use Rattle.carte_value.specs.Asks.{Asks, ask, run, asked, firsts}
use Rattle.carte_value.specs.Once.{Answers, AnswersOf, Went}
use Rattle.carte_effect.specs.declared.outcome.Made.TheVariants.{Ran, Reused}
use Rattle.carte_task.specs.Machines.{State, IsEnd}
use Rattle.carte_task.specs.Laws.{IsUnderWay}
use Rattle.carte_effect.specs.Jobs.{Step, came, stopped, no_memory, StepKeyed}

-- the same task goes on by these answers, which the truth has
pub record GoesBy (t : Truth) (further : Answers) (p q : State) : Type 0 where
  pub key : q.key ≡ p.key
  pub whole : q.whole ≡ p.whole
  pub answers : q.answers ≡ p.answers ++ further
  pub known : AnswersOf t further
  pub went : Went p.rest further q.rest

-- to the end, to a name without a value, or as far as there was memory
abbrev pub MachineGives : State → Truth → Answers → Step → State → Type 0
MachineGives p t a (came (Ran o)) q = GoesBy t a p q × IsEnd q o
MachineGives p t a (came (Reused o)) q = ⊥
MachineGives p t a (stopped k) q = GoesBy t a p q × ((go : Value → Asks Value) × (q.rest ≡ ask k go)) × (t k ≡ None)
MachineGives p t a no_memory q = GoesBy t a p q

-- it is on its way by answers of the truth, over which it can only end with the value; the needs are what it looks up there
pub record FitsMachine (p : State) (t : Truth) (k : List ℕ) (v : Option Value) (needs asks : List (List ℕ)) : Type 0 where
  pub key : p.key ≡ k
  pub under_way : IsUnderWay p
  pub known : AnswersOf t p.answers
  pub ends : (w : Value) → run t p.whole ≡ Ok w → v ≡ Some w
  pub needs_are : needs ≡ firsts (asked t p.whole)
  pub asks_needs : (j : List ℕ) → Among needs j → Among asks j

-- a machine ends with the key of its task, which stays
pub machine_keyed_on : {J : Type 0} (state : J → State) (p q : J) (t : Truth) (k : List ℕ) (a : Answers) (step : Step) → (state p).key ≡ k → MachineGives (state p) t a step (state q) → StepKeyed (λ j i. (state j).key ≡ i) k step q
machine_keyed_on state p q t k a (came (Ran o)) keyed (on, end) = end.key ∙ on.key ∙ keyed
machine_keyed_on state p q t k a (came (Reused o)) keyed never = absurd never
machine_keyed_on state p q t k a (stopped j) keyed (on, rest, none) = on.key ∙ keyed
machine_keyed_on state p q t k a no_memory keyed on = on.key ∙ keyed

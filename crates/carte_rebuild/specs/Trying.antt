-- Checks of earlier ends, and then a task, as one computation.
use Rattle.std.specs.Prelude.{ℕ, ◌≡◌, List, [], ◌∷◌, ◌++◌, Option, Some, None, Ok}
use Rattle.carte_value.specs.declared.value.Value.{Value}
use Rattle.carte_value.specs.Truths.{Truth, Among}
use Rattle.carte_value.specs.Asks.{Asks, done, ask, and_then, run, asked}
use Rattle.carte_value.specs.Once.{Answers, AnswersOf, Went, once}
use Rattle.carte_effect.specs.declared.outcome.Made.{Made}
use Rattle.carte_effect.specs.declared.outcome.Made.TheVariants.{Ran, Reused}
use Rattle.carte_effect.specs.Outcomes.{Outcome, links_of}
use Rattle.carte_effect.specs.Jobs.{Step, came, stopped, no_memory, outcome_of, HasLinks}
use Rattle.carte_task.specs.Machines.{State}
use Rattle.carte_task.specs.Checking.{Checking}
use Rattle.carte_task.specs.Checks.{rest_from}

-- what is left of a task, with the answers so far: the key with its value, and links of all answers
abbrev pub with_links : List ℕ → Answers → Asks Value → Asks Made
with_links k a (done v) = done (Ran (record { key = k; value = v; links = links_of a }))
with_links k a (ask j go) = ask j (λ v. with_links k (a ++ (j, v) ∷ []) (go v))

abbrev pub machine_left : State → Asks Made
machine_left s = with_links s.key s.answers s.rest

-- a task from its start, which looks each name up once
abbrev pub task_left : List ℕ → Asks Value → Asks Made
task_left k m = with_links k [] (once [] m)

-- an earlier end that holds is given again, and else that comes
abbrev pub judged_by : Outcome → Asks Made → Option ℕ → Asks Made
judged_by o m None = done (Reused o)
judged_by o m (Some at) = m

abbrev pub checked : Checking → Asks Made → Asks Made
checked c m = and_then (rest_from c) (judged_by c.earlier m)

-- the checks, of which the last comes first, and then that
abbrev pub tries : List Checking → Asks Made → Asks Made
tries [] m = m
tries (c ∷ cs) m = tries cs (checked c m)

-- answers of the truth lead to the end, to a name without a value, or as far as there was memory
abbrev pub Gives : Asks Made → Truth → Answers → Step → Asks Made → Type 0
Gives p t a (came m) q = AnswersOf t a × Went p a (done m)
Gives p t a (stopped j) q = AnswersOf t a × Went p a q × ((go : Value → Asks Made) × (q ≡ ask j go)) × (t j ≡ None)
Gives p t a no_memory q = AnswersOf t a × Went p a q

-- over the truth it ends with the key, the value and, where it ran, the links of the needs; and it asks for needs alone
pub record FitsLeft (p : Asks Made) (t : Truth) (k : List ℕ) (v : Option Value) (needs asks : List (List ℕ)) : Type 0 where
  pub ends : (m : Made) → run t p ≡ Ok m → ((outcome_of m).key ≡ k) × (v ≡ Some (outcome_of m).value) × HasLinks t needs m
  pub needed : (j : List ℕ) → Among (asked t p) j → Among needs j
  pub asks_needs : (j : List ℕ) → Among needs j → Among asks j

-- Machines, and what a drive leaves of one.
use Rattle.std.specs.Prelude.{ℕ, Bool, false, ◌||◌, is_ok, List, [], ◌≡◌, Option, Result}
use Rattle.carte_value.specs.declared.value.Value.{Value}
use Rattle.carte_value.specs.Truths.{Truth}
use Rattle.carte_value.specs.Asks.{Asks, done}
use Rattle.carte_value.specs.Once.{Answers, once}
use Rattle.carte_effect.specs.declared.effect.Halt.{Halt}
use Rattle.carte_task.specs.declared.machine.Machine.{Machine}
use Rattle.carte_task.specs.Answered.{Along, Halted}
use Rattle.carte_task.specs.Code.{top}
use Rattle.carte_effect.specs.Outcomes.{Outcome, links_of}
use Rattle.carte_task.specs.State.{answers_in, rest_in}
use Rattle.carte_task.specs.Tasks.{routine_asks}

-- what a machine is to its callers
pub record State : Type 0 where
  pub key : List ℕ
  -- what it computes from the start
  pub whole : Asks Value
  -- the names asked so far, in order, with what was answered
  pub answers : Answers
  -- what is left to ask
  pub rest : Asks Value
  pub ended : Bool

abbrev pub state_of : Machine → State
state_of m = record { key = m.task.key; whole = routine_asks m.task; answers = answers_in m.progress; rest = rest_in m.task.kind m.task.code.items m.progress; ended = m.ended }

-- nothing is asked yet
abbrev pub started : List ℕ → Asks Value → State
started k whole = record { key = k; whole = whole; answers = []; rest = once [] whole; ended = false }

-- the same task goes on, by answers that the truth has and the log lists
pub record GoesOn (t : Truth) (log0 log : Option Answers) (p q : State) : Type 0 where
  pub key : q.key ≡ p.key
  pub whole : q.whole ≡ p.whole
  pub along : Along t log0 log p.answers p.rest q.answers q.rest

-- with its value and the links of all that was answered
pub record IsEnd (q : State) (o : Outcome) : Type 0 where
  pub key : o.key ≡ q.key
  pub value : q.rest ≡ done o.value
  pub links : o.links ≡ links_of q.answers

abbrev pub Drove : {S : Type 0} → Truth → (List ℕ → S → Type 0) → Option Answers → Option Answers → State → State → Result Outcome (Halt S) → Type 0
Drove t own log0 log p q result = GoesOn t log0 log p q × Halted t own q.rest (IsEnd q) result × (q.ended ≡ (is_ok result || p.ended))

-- nothing but that it has ended
abbrev pub OnlyEnds : State → State → Bool → Type 0
OnlyEnds p q ended = q ≡ record p { ended = ended || p.ended }

-- with the newest value and the links of all that was answered
pub record EndsWith (m : Machine) (o : Outcome) : Type 0 where
  pub key : o.key ≡ (state_of m).key
  pub value : o.value ≡ top m.progress.values.items
  pub links : o.links ≡ links_of (state_of m).answers

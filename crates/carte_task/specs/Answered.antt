-- What the answers to names make of a computation.
use Rattle.std.specs.Prelude.{ℕ, List, [], ◌∷◌, ◌++◌, ◌≡◌, ◌⊎◌, Option, Some, None, Result, Ok, Err}
use Rattle.carte_value.specs.declared.value.Value.{Value}
use Rattle.carte_value.specs.Truths.{Truth}
use Rattle.carte_value.specs.Asks.{Asks, ask}
use Rattle.carte_value.specs.Once.{Answers, answer_in, Went, AnswersOf}
use Rattle.carte_effect.specs.declared.effect.Halt.{Halt}
use Rattle.carte_effect.specs.declared.effect.Halt.TheVariants.{Stop, NoMemory}
use Rattle.carte_effect.specs.Effects.{more}

-- the answer of before, or one of now, which the truth has and the log lists
abbrev pub IsAnswer : Truth → Option Answers → Option Answers → Answers → Answers → List ℕ → Value → Type 0
IsAnswer t log0 log a0 a k v = ((answer_in a0 k ≡ Some v) × (a ≡ a0) × (log ≡ log0)) ⊎ ((answer_in a0 k ≡ None) × (t k ≡ Some v) × (a ≡ a0 ++ (k, v) ∷ []) × (log ≡ more log0 ((k, v) ∷ [])))

abbrev pub Answered : {S : Type 0} → Truth → (List ℕ → S → Type 0) → Option Answers → Option Answers → Answers → Answers → List ℕ → Result Value (Halt S) → Type 0
Answered t own log0 log a0 a k (Ok v) = IsAnswer t log0 log a0 a k v
Answered t own log0 log a0 a k (Err (Stop s)) = (answer_in a0 k ≡ None) × (t k ≡ None) × own k s × (a ≡ a0) × (log ≡ log0)
Answered t own log0 log a0 a k (Err NoMemory) = ((a ≡ a0) × (log ≡ log0)) ⊎ ((v : Value) × IsAnswer t log0 log a0 a k v)

-- such an answer was put on the stack; where there is none, the stack is as before
abbrev pub AnsweredOnto : {S : Type 0} → Truth → (List ℕ → S → Type 0) → Option Answers → Option Answers → Answers → Answers → List ℕ → List Value → List Value → Result (Unit {0}) (Halt S) → Type 0
AnsweredOnto t own log0 log a0 a k vs ws (Ok u) = (v : Value) × IsAnswer t log0 log a0 a k v × (ws ≡ vs ++ v ∷ [])
AnsweredOnto t own log0 log a0 a k vs ws (Err h) = Answered t own log0 log a0 a k (Err h) × (ws ≡ vs)

-- answers of the truth, listed in the log, lead from one computation to what is left of it
pub record Led {A : Type 0} (t : Truth) (log0 log : Option Answers) (r0 : Asks A) (further : Answers) (r : Asks A) : Type 0 where
  pub known : AnswersOf t further
  pub went : Went r0 further r
  pub logged : log ≡ more log0 further

-- such answers are put behind those of before
pub record Along (t : Truth) (log0 log : Option Answers) (a0 : Answers) (r0 : Asks Value) (a : Answers) (r : Asks Value) : Type 0 where
  pub further : Answers
  pub answers : a ≡ a0 ++ further
  pub led : Led t log0 log r0 further r

-- what is left asks for a name without a value, and the stop is the effect's own for that name
pub record StopsAt {A S : Type 0} (t : Truth) (own : List ℕ → S → Type 0) (r : Asks A) (s : S) : Type 0 where
  pub name : List ℕ
  pub go : Value → Asks A
  pub is : r ≡ ask name go
  pub none : t name ≡ None
  pub own_stop : own name s

abbrev pub Halted : {A B S : Type 0} → Truth → (List ℕ → S → Type 0) → Asks A → (B → Type 0) → Result B (Halt S) → Type 0
Halted t own r P (Ok b) = P b
Halted t own r P (Err (Stop s)) = StopsAt t own r s
Halted t own r P (Err NoMemory) = Unit {0}

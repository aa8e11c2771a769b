-- Computations that ask each name once.
use Rattle.std.specs.Prelude.{ℕ, List, [], ◌∷◌, ◌++◌, ◌≡◌, Option, Some, None}
use Rattle.std.specs.Map.{lookup}
use Rattle.carte_value.specs.declared.value.Value.{Value}
use Rattle.carte_name.specs.Names.{name_eq}
use Rattle.carte_value.specs.Truths.{Truth}
use Rattle.carte_value.specs.Asks.{Asks, done, ask}

-- names with the values that were answered for them, in order
abbrev pub Answers : Type 0
Answers = List (List ℕ × Value)

abbrev pub answer_in : Answers → List ℕ → Option Value
answer_in a k = lookup (name_eq k) a

-- the computation that takes these answers where it can, and remembers each further one
abbrev pub once_on : {A : Type 0} → Option Value → Answers → List ℕ → (Answers → Value → Asks A) → Asks A
once_on (Some v) a k go = go a v
once_on None a k go = ask k (λ v. go (a ++ (k, v) ∷ []) v)

abbrev pub once : {A : Type 0} → Answers → Asks A → Asks A
once a (done x) = done x
once a (ask k go) = once_on (answer_in a k) a k (λ b v. once b (go v))

-- these answers lead from one computation to what is left of it
abbrev pub Went : {A : Type 0} → Asks A → Answers → Asks A → Type 0
Went m [] r = m ≡ r
Went {A = A} m ((k, v) ∷ a) r = (go : Value → Asks A) × (m ≡ ask k go) × Went (go v) a r

-- a truth that knows some answers besides
abbrev pub or_else : Option Value → Option Value → Option Value
or_else (Some v) o = Some v
or_else None o = o

abbrev pub and_answers : Answers → Truth → Truth
and_answers a t k = or_else (answer_in a k) (t k)

-- each answer is the truth's
abbrev pub AnswersOf : Truth → Answers → Type 0
AnswersOf t [] = Unit {0}
AnswersOf t ((k, v) ∷ a) = (t k ≡ Some v) × AnswersOf t a

abbrev pub names_of : Answers → List (List ℕ)
names_of [] = []
names_of ((k, v) ∷ a) = k ∷ names_of a

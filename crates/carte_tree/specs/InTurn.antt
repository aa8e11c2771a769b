-- Computations that ask for a list of names, whatever is answered.
use Rattle.std.specs.Prelude.{ℕ, List, [], ◌∷◌, ◌≡◌, Option, Some, None}
use Rattle.carte_value.specs.declared.value.Value.{Value}
use Rattle.carte_value.specs.Truths.{Truth}
use Rattle.carte_value.specs.Asks.{Asks, done, ask}
use Rattle.carte_value.specs.Once.{Answers, answer_in}

-- it asks for exactly these names, in order
abbrev pub AsksInTurn : {A : Type 0} → List (List ℕ) → Asks A → Type 0
AsksInTurn [] (done a) = Unit {0}
AsksInTurn [] (ask j go) = ⊥
AsksInTurn (k ∷ ks) (done a) = ⊥
AsksInTurn (k ∷ ks) (ask j go) = (k ≡ j) × ((v : Value) → AsksInTurn ks (go v))

abbrev pub Each : (List ℕ → Type 0) → List (List ℕ) → Type 0
Each P [] = Unit {0}
Each P (k ∷ ks) = P k × Each P ks

-- each of the names has a value
abbrev pub HasAll : Truth → List (List ℕ) → Type 0
HasAll t ks = Each (λ k. (v : Value) × (t k ≡ Some v)) ks

-- each of the names has an answer, which is its value
abbrev pub KnowsAll : Answers → Truth → List (List ℕ) → Type 0
KnowsAll a t ks = Each (λ k. (v : Value) × (answer_in a k ≡ Some v) × (t k ≡ Some v)) ks

abbrev pub go_on : Option Value → List (List ℕ) → List (List ℕ)
go_on None ks = []
go_on (Some v) ks = ks

-- up to and with the first name that has no value
abbrev pub until : Truth → List (List ℕ) → List (List ℕ)
until t [] = []
until t (k ∷ ks) = k ∷ go_on (t k) (until t ks)

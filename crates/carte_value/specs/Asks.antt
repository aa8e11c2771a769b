-- A task as a computation that asks for the values of names, and what it gives over a truth.
use Rattle.std.specs.Prelude.{ℕ, not, List, [], ◌∷◌, filter, Option, Some, None, Result, Ok, Err}
use Rattle.carte_value.specs.declared.value.Value.{Value}
use Rattle.carte_name.specs.Names.{name_eq}
use Rattle.carte_value.specs.Truths.{Truth}

-- it is done, or it asks for the value of a name and goes on with the answer
pub data Asks (A : Type 0) : Type 0 where
  done : A → Asks A
  ask : List ℕ → (Value → Asks A) → Asks A

abbrev pub and_then : {A B : Type 0} → Asks A → (A → Asks B) → Asks B
and_then (done a) f = f a
and_then (ask k go) f = ask k (λ v. and_then (go v) f)

abbrev pub answered : {A : Type 0} → Option Value → List ℕ → (Value → Result A (List ℕ)) → Result A (List ℕ)
answered None k go = Err k
answered (Some v) k go = go v

-- the result over a truth, or the first name asked for that has no value in it
abbrev pub run : {A : Type 0} → Truth → Asks A → Result A (List ℕ)
run t (done a) = Ok a
run t (ask k go) = answered (t k) k (λ v. run t (go v))

abbrev pub asked_on : Option Value → (Value → List (List ℕ)) → List (List ℕ)
asked_on None go = []
asked_on (Some v) go = go v

-- the names asked for, in order, up to and with the first that has no value
abbrev pub asked : {A : Type 0} → Truth → Asks A → List (List ℕ)
asked t (done a) = []
asked t (ask k go) = k ∷ asked_on (t k) (λ v. asked t (go v))

-- each name once, at its first place
abbrev pub firsts : List (List ℕ) → List (List ℕ)
firsts [] = []
firsts (k ∷ ks) = k ∷ filter (λ j. not (name_eq k j)) (firsts ks)

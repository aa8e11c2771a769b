-- What a fetch answers, and what an effect lists.
use Rattle.std.specs.Prelude.{ℕ, List, [], ◌∷◌, ◌++◌, ◌≡◌, ◌⊎◌, Option, Some, None, Result, Ok, Err}
use Rattle.carte_value.specs.declared.value.Value.{Value}
use Rattle.carte_value.specs.Truths.{Truth}
use Rattle.carte_value.specs.Once.{Answers}
use Rattle.carte_effect.specs.declared.effect.Halt.{Halt}
use Rattle.carte_effect.specs.declared.effect.Halt.TheVariants.{Stop, NoMemory}

-- the truth's value, or one of the effect's stops for a name without one
abbrev pub Fetched : {S : Type 0} → Truth → (List ℕ → S → Type 0) → List ℕ → Result Value (Halt S) → Type 0
Fetched t stops k (Ok v) = t k ≡ Some v
Fetched t stops k (Err (Stop s)) = (t k ≡ None) × stops k s
Fetched t stops k (Err NoMemory) = Unit {0}

-- the log with further answers, where there is a log
abbrev pub more : Option Answers → Answers → Option Answers
more None a = None
more (Some l) a = Some (l ++ a)

-- what was answered is listed, and a halt lists nothing
abbrev pub Logged : {S : Type 0} → Option Answers → Option Answers → List ℕ → Result Value (Halt S) → Type 0
Logged old new k (Ok v) = new ≡ more old ((k, v) ∷ [])
Logged old new k (Err h) = new ≡ old

-- it was asked for the name once where there is an answer, and else not answered, or once
abbrev pub AskedOnce : {S : Type 0} → Option Answers → Option Answers → List ℕ → Result Value (Halt S) → Type 0
AskedOnce old new k (Ok v) = new ≡ more old ((k, v) ∷ [])
AskedOnce old new k (Err (Stop s)) = new ≡ old
AskedOnce old new k (Err NoMemory) = (new ≡ old) ⊎ ((v : Value) × (new ≡ more old ((k, v) ∷ [])))

-- the same stops
abbrev pub SameStops : {S : Type 0} → (List ℕ → S → Type 0) → (List ℕ → S → Type 0) → Type 0
SameStops {S = S} old new = ((k : List ℕ) (s : S) → old k s → new k s) × ((k : List ℕ) (s : S) → new k s → old k s)

-- names beside values
abbrev pub paired : List (List ℕ) → List Value → Answers
paired [] vs = []
paired (k ∷ ks) [] = []
paired (k ∷ ks) (v ∷ vs) = (k, v) ∷ paired ks vs

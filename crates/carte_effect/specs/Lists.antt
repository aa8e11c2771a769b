-- What a fetch of a list answers.
use Rattle.std.specs.Prelude.{ℕ, Bool, true, false, List, [], ◌∷◌, ◌++◌, ◌≡◌, ◌⊎◌, Option, Some, None, Result, Ok, Err}
use Rattle.carte_value.specs.declared.value.Value.{Value}
use Rattle.carte_value.specs.Truths.{Truth}
use Rattle.carte_value.specs.Once.{Answers as Asked}
use Rattle.carte_effect.specs.Effects.{more, paired}
use Rattle.carte_effect.specs.declared.effect.Halt.{Halt}
use Rattle.carte_effect.specs.declared.effect.Halt.TheVariants.{Stop, NoMemory}
use Rattle.carte_effect.specs.declared.list.Answers.{Answers}
use Rattle.carte_effect.specs.declared.list.Answers.TheVariants.{Values, Withheld}

-- the truth has these values for these names, in order
abbrev pub ValuesOf : Truth → List (List ℕ) → List Value → Type 0
ValuesOf t [] [] = Unit {0}
ValuesOf t [] (v ∷ vs) = ⊥
ValuesOf t (k ∷ ks) [] = ⊥
ValuesOf t (k ∷ ks) (v ∷ vs) = (t k ≡ Some v) × ValuesOf t ks vs

-- it stops at the first of the names without a value
abbrev pub StopsAmong : {S : Type 0} → Truth → (List ℕ → S → Type 0) → List (List ℕ) → S → Type 0
StopsAmong t stops [] s = ⊥
StopsAmong t stops (k ∷ ks) s = ((t k ≡ None) × stops k s) ⊎ (((v : Value) × (t k ≡ Some v)) × StopsAmong t stops ks s)

abbrev pub FetchedList : {S : Type 0} → Truth → (List ℕ → S → Type 0) → Bool → List (List ℕ) → Result Answers (Halt S) → Type 0
FetchedList t stops withholds ks (Ok (Values vs)) = (withholds ≡ false) × ValuesOf t ks vs
FetchedList t stops withholds ks (Ok Withheld) = withholds ≡ true
FetchedList t stops withholds ks (Err (Stop s)) = StopsAmong t stops ks s
FetchedList t stops withholds ks (Err NoMemory) = Unit {0}

-- the names asked for are listed, where there is a log, and a halt lists nothing
abbrev pub listed : Option (List (List ℕ)) → List (List ℕ) → Option (List (List ℕ))
listed None ks = None
listed (Some l) ks = Some (l ++ ks)

abbrev pub Listed : {S : Type 0} → Option (List (List ℕ)) → Option (List (List ℕ)) → List (List ℕ) → Result Answers (Halt S) → Type 0
Listed old new ks (Ok a) = new ≡ listed old ks
Listed old new ks (Err h) = new ≡ old

-- the names were asked for once, in order: all of them, or as far as there are values
abbrev pub AskedEach : {S : Type 0} → Option Asked → Option Asked → List (List ℕ) → Result Answers (Halt S) → Type 0
AskedEach old new ks (Ok (Values vs)) = new ≡ more old (paired ks vs)
AskedEach old new ks (Ok Withheld) = new ≡ old
AskedEach old new ks (Err h) = (vs : List Value) × (new ≡ more old (paired ks vs))

-- The laws of jobs, for schedules over jobs of any kind.
use Rattle.std.specs.Prelude.{ℕ, List, Option}
use Rattle.carte_value.specs.declared.value.Value.{Value}
use Rattle.carte_value.specs.Once.{Answers}
use Rattle.carte_value.specs.Truths.{Truth, Extends}
use Rattle.carte_effect.specs.Jobs.{Step, DriveFits, StepKeyed}
use Rattle.carte_bench.specs.Steps.{FitsOf, GivesOf}

-- over any part of its truth a job that fits asks for what it may, and ends or stops rightly
abbrev pub FitsOn : {J : Type 0} → FitsOf J → GivesOf J → Type 0
FitsOn {J = J} fits gives = (p : J) (t part : Truth) (k : List ℕ) (v : Option Value) (needs asks : List (List ℕ)) (further : Answers) (step : Step) (q : J) → fits p t k v needs asks → Extends part t → gives p part further step q → DriveFits fits t k v needs asks part further step q

-- over any truth a job of a key comes to something with it, or goes on as a job of it
abbrev pub KeyedOn : {J : Type 0} → (J → List ℕ → Type 0) → GivesOf J → Type 0
KeyedOn {J = J} keyed gives = (p : J) (t : Truth) (k : List ℕ) (further : Answers) (step : Step) (q : J) → keyed p k → gives p t further step q → StepKeyed keyed k step q

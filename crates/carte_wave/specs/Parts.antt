-- A list of jobs in parts, and what these came to.
use Rattle.std.specs.Prelude.{ℕ, ◌<◌, Bool, List, [], ◌∷◌, ◌++◌, Result, Ok, Err, length, slice_index_or, IfOk}
use Rattle.carte_value.specs.Once.{Answers}
use Rattle.carte_value.specs.Truths.{Truth}
use Rattle.carte_name.specs.declared.NoMemory.{NoMemory}
use Rattle.carte_effect.specs.Jobs.{Step}
use Rattle.carte_effect.specs.Ledger.{Ledger, no_runs, with_later}
use Rattle.carte_effect.specs.Sights.{Sight}
use Rattle.carte_wave.specs.declared.parts.Part.{Part}
use Rattle.carte_wave.specs.declared.wave.Driven.{Driven}
use Rattle.carte_wave.specs.declared.wave.Wave.{Wave}
use Rattle.carte_wave.specs.Drives.{DroveAll}

abbrev pub jobs_in : {J : Type 0} → List (Part J) → List J
jobs_in [] = []
jobs_in (p ∷ ps) = p.jobs.items ++ jobs_in ps

abbrev pub AllPassed : {J : Type 0} → List (Result (Wave J) NoMemory) → Type 0
AllPassed [] = Unit {0}
AllPassed (Ok w ∷ rs) = AllPassed rs
AllPassed (Err e ∷ rs) = ⊥

abbrev pub driven_in : {J : Type 0} → List (Result (Wave J) NoMemory) → List (Driven J)
driven_in [] = []
driven_in (Ok w ∷ rs) = w.driven.items ++ driven_in rs
driven_in (Err e ∷ rs) = driven_in rs

abbrev pub runs_in : {J : Type 0} → List (Result (Wave J) NoMemory) → Ledger
runs_in [] = no_runs
runs_in (Ok w ∷ rs) = with_later w.runs (runs_in rs)
runs_in (Err e ∷ rs) = runs_in rs

module _ {J : Type 0} (name : J → List ℕ) (started : J → Bool) (gives : J → Truth → Answers → Step → J → Type 0) (sight : List ℕ → Sight) where
  -- a part whose jobs were driven, where there was memory
  abbrev pub DrivesPart : Part J → Result (Wave J) NoMemory → Type 0
  DrivesPart p r = IfOk r (λ w. DroveAll name started gives sight p.jobs.items w.driven.items no_runs w.runs)

  -- so was each, in order
  abbrev pub DrivesEach : List (Part J) → List (Result (Wave J) NoMemory) → Type 0
  DrivesEach ps rs = (i : ℕ) (p : Part J) (r : Result (Wave J) NoMemory) → i < length ps → DrivesPart (slice_index_or ps i p) (slice_index_or rs i r)

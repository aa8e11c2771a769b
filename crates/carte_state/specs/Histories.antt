-- Runs one after another, each over a file that the one before it left.
use Rattle.std.specs.Prelude.{◌≡◌, ℕ, ◌+◌, ◌≤◌, List, [], ◌∷◌, ◌++◌}
use Rattle.carte_io.specs.Disk.{CountsUp, IsImage, Story, moments}
use Rattle.carte_io.specs.Stations.{StepsThrough}
use Rattle.carte_record.specs.declared.batch.Batch.{Batch}
use Rattle.carte_state.specs.Folding.{Keeps}
use Rattle.carte_state.specs.Runs.{applied_to, calls_of_all, steps_of}
use Rattle.carte_state.specs.States.{IsKeptOn, Stand, any_in}
use Rattle.carte_state.specs.Versions.{AnyKept}

-- the batches of a run: those that were acknowledged when it ended, or was cut off, and those behind them
pub record Batches : Type 0 where
  pub acknowledged : List Batch
  pub others : List Batch

-- a run: a state that was loaded from a file, as its clauses tell, and had batches applied, as theirs do, until so many calls had passed; this is one of the
-- images that a crash may leave then
pub record IsRun (limit : ℕ) (file : List ℕ) (run : Batches) (image : List ℕ) : Type 0 where
  pub state : Stand
  pub old : Story
  pub new : Story
  pub limit_is : state.journal.limit ≡ limit
  pub file_is : old.now.reads ≡ file
  pub loaded : IsKeptOn state old
  pub ordered : CountsUp (moments new)
  pub steps : StepsThrough (Keeps limit) (any_in state) (steps_of state.journal (any_in state) (run.acknowledged ++ run.others)) old new
  pub passed : old.now.passed + calls_of_all state.journal run.acknowledged ≤ new.now.passed
  pub left : IsImage new.now image

-- runs from a file to a file
abbrev pub AreRuns : ℕ → List ℕ → List Batches → List ℕ → Type 0
AreRuns limit file [] last = last ≡ file
AreRuns limit file (run ∷ runs) last = (image : List ℕ) × IsRun limit file run image × AreRuns limit image runs last

-- the file keeps what all that was acknowledged makes, in order, and perhaps of each run some of the batches behind
abbrev pub KeepsAfter : ℕ → AnyKept → List Batches → List ℕ → Type 0
KeepsAfter limit K [] file = Keeps limit K file
KeepsAfter limit K (run ∷ runs) file =
    (more rest : List Batch) × (run.others ≡ more ++ rest) × KeepsAfter limit (applied_to (applied_to K run.acknowledged) more) runs file

-- whatever the number of runs and wherever each was cut off
abbrev pub HistoryKeeps : Type 0
HistoryKeeps = (limit : ℕ) (K : AnyKept) (file last : List ℕ) (runs : List Batches) → Keeps limit K file → AreRuns limit file runs last
    → KeepsAfter limit K runs last

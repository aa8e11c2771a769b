-- What the live information makes, and what images keep while it is written.
use Rattle.std.specs.Prelude.{◌≡◌, ◌⊎◌, ℕ, ◌+◌, Bool, true, List, ◌++◌}
use Rattle.carte_io.specs.Disk.{CountsUp, LeavesOnly, Story, moments}
use Rattle.carte_io.specs.Stations.{StepsThrough}
use Rattle.carte_journal.specs.Regions.{calls_to_turn}
use Rattle.carte_record.specs.declared.batch.Batch.{Batch}
use Rattle.carte_record.specs.declared.kept.Kept.{Kept}
use Rattle.carte_record.specs.Folds.{applied}
use Rattle.carte_record.specs.Kept.{kept_view, nothing_kept}
use Rattle.carte_state.specs.Folding.{Keeps}
use Rattle.carte_state.specs.Versions.{apply_to}
use Rattle.carte_state.specs.States.{Stand, any_in, step_for}
use Rattle.carte_compact.specs.Due.{is_due}
use Rattle.carte_compact.specs.Lengths.{region_length}
use Rattle.carte_compact.specs.Live.{IsLive}
use Rattle.carte_compact.specs.Rewriting.{IsCramped, step_again}

-- of nothing it makes what is kept
abbrev pub LiveIsKept : Type 0
LiveIsKept = (K : Kept) (Bs : List Batch) → IsLive K Bs → applied nothing_kept Bs ≡ kept_view K

-- there is one
abbrev pub OneLive : Type 0
OneLive = (K : Kept) (Bs Cs : List Batch) → IsLive K Bs → IsLive K Cs → Bs ≡ Cs

-- a rewriting that passed, as its disk tells it
pub record TellsRenewed (s t : Stand) (old new : Story) : Type 0 where
  pub kept : t.kept ≡ s.kept
  pub one : t.one ≡ s.one
  pub limit : t.journal.limit ≡ s.journal.limit
  pub calls : new.now.passed ≡ old.now.passed + calls_to_turn s.journal.bank
  pub steps : StepsThrough (Keeps s.journal.limit) (any_in s) (step_again s) old new

-- a batch, whether it was applied or not
pub record TellsApplied (s : Stand) (B : Batch) (old new : Story) : Type 0 where
  pub steps : StepsThrough (Keeps s.journal.limit) (any_in s) (step_for s.journal (any_in s) B) old new
  pub ordered : CountsUp (moments new)

-- while the file is rewritten, whether that passes or not, each image keeps what is kept
abbrev pub KeptThroughout : Type 0
KeptThroughout = (s : Stand) (old new : Story) → CountsUp (moments new) → StepsThrough (Keeps s.journal.limit) (any_in s) (step_again s) old new
    → LeavesOnly old new (Keeps s.journal.limit (any_in s))

-- a rewriting and then a batch on what it left are steps one after another
abbrev pub StepsBehind : Type 0
StepsBehind = (s t : Stand) (B : Batch) (old mid new : Story) → TellsRenewed s t old mid → TellsApplied t B mid new
    → StepsThrough (Keeps s.journal.limit) (any_in s) (step_again s ++ step_for t.journal (any_in s) B) old new

-- so at each moment an image keeps what was kept, or what the batch makes of it
abbrev pub StationsBehind : Type 0
StationsBehind = (s t : Stand) (B : Batch) (old mid new : Story) → TellsRenewed s t old mid → TellsApplied t B mid new
    → LeavesOnly old new (λ image. Keeps s.journal.limit (any_in s) image ⊎ Keeps s.journal.limit (apply_to B (any_in s)) image)

-- a rewriting that is due finds room
abbrev pub DueHasRoom : Type 0
DueHasRoom = (s : Stand) (B : Batch) (is_first : Bool) → ((Bs : List Batch) → IsLive s.kept Bs → is_due s (region_length Bs) B is_first ≡ true)
    → (needed limit : ℕ) → ¬ (IsCramped s needed limit)

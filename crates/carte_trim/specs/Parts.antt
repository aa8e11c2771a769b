-- What the parts of a run have done.
use Rattle.std.specs.Prelude.{ℕ, ◌≡◌, ◌⊎◌, List, length, Result, Ok, Err}
use Rattle.carte_io.specs.Causes.{Rose}
use Rattle.carte_io.specs.Disk.{LeavesOnly, Story}
use Rattle.carte_journal.specs.declared.faults.LoadFault.{LoadFault}
use Rattle.carte_journal.specs.declared.faults.LoadFault.TheVariants as load
use Rattle.carte_record.specs.Kept.{SomeKept}
use Rattle.carte_state.specs.Folding.{IsBadState, Keeps}
use Rattle.carte_state.specs.States.{Stand, kept_in}
use Rattle.carte_state.specs.Versions.{InTwo}
use Rattle.carte_trim.specs.Around.{OverDisk, OverSink, IsUntouched}
use Rattle.carte_trim.specs.New.{IsNew, KeepsEither}
use Rattle.carte_trim.specs.Outcome.{IsMade, IsOver, IsSpared, Made, MadeLeaves, Did, Prints, TellsNew, TellsSink, TellsState, Found, FoundOld}
use Rattle.carte_trim.specs.declared.status.Status.{Status}
use Rattle.carte_trim.specs.declared.status.Status.TheVariants.{StateFault, BadState, Full, NoMemory, NewFault, OldState}

-- ---- the state

abbrev pub unloaded_of : LoadFault → Status
unloaded_of load.DiskFault = StateFault
unloaded_of (load.BadState offset) = BadState offset
unloaded_of load.NoMemory = NoMemory

abbrev pub LoadedOr : ℕ → OverDisk → Result (Stand × ℕ) Status → Type 0
LoadedOr limit s (Ok r) = (s.tells → Keeps limit (InTwo (kept_in r.0)) s.old.now.reads) × (s.tells → r.1 ≡ length s.old.now.reads) × (s.failed ≡ s.failed_before)
LoadedOr limit s (Err StateFault) = Rose s.failed_before s.failed
LoadedOr limit s (Err (BadState offset)) = (s.tells → IsBadState limit s.old.now.reads offset) × (s.failed ≡ s.failed_before)
LoadedOr limit s (Err OldState) = FoundOld limit s × (s.failed ≡ s.failed_before)
LoadedOr limit s (Err NoMemory) = s.failed ≡ s.failed_before
LoadedOr limit s (Err status) = ⊥

pub record LoadsState (limit : ℕ) (s : OverDisk) (result : Result (Stand × ℕ) Status) : Type 0 where
  pub loaded : LoadedOr limit s result
  pub spared : IsSpared s

-- ---- the new one

abbrev pub MadeOr : ℕ → SomeKept → OverDisk → Result ℕ Status → Type 0
MadeOr limit L d (Ok bytes) = IsMade limit d L × (d.tells → bytes ≡ length d.new.now.reads) × (d.failed ≡ d.failed_before)
MadeOr limit L d (Err (Full needed most)) = IsOver limit L needed most × IsSpared d × (d.failed ≡ d.failed_before)
MadeOr limit L d (Err NoMemory) = d.failed ≡ d.failed_before
MadeOr limit L d (Err NewFault) = Rose d.failed_before d.failed
MadeOr limit L d (Err status) = ⊥

-- it keeps this, or wasn't made for this reason; and at each moment an image keeps nothing or this
pub record Makes (limit : ℕ) (L : SomeKept) (d : OverDisk) (result : Result ℕ Status) : Type 0 where
  pub made : MadeOr limit L d result
  pub leaves : d.tells → IsNew d.old → LeavesOnly d.old d.new (KeepsEither limit L)

-- it has so many bytes, or a call failed
abbrev pub LengthOr : Type 0 → Story → ℕ → ℕ → Result ℕ Status → Type 0
LengthOr tells new before failed (Ok bytes) = (tells → bytes ≡ length new.now.reads) × (failed ≡ before)
LengthOr tells new before failed (Err NewFault) = Rose before failed
LengthOr tells new before failed (Err status) = ⊥

-- ---- the reply

-- it was written, or there was no memory for it
abbrev pub Answers : List ℕ → OverSink → Status → Type 0
Answers text k status = ((status ≡ NoMemory) × IsUntouched k) ⊎ Prints text k status

-- ---- a run

pub record RunsOver (limit n : ℕ) (K : SomeKept) (of_bytes : ℕ) (d : OverDisk) (k : OverSink) (status : Status) : Type 0 where
  pub made : Made limit n K of_bytes d k status
  pub leaves : MadeLeaves limit n K d
  pub new : TellsNew d status
  pub sink : TellsSink k status

pub record RunsFor (limit n : ℕ) (s d : OverDisk) (k : OverSink) (status : Status) : Type 0 where
  pub did : Did limit n s d k status
  pub spared : IsSpared s
  pub leaves : IsSpared d ⊎ Found limit s (λ K. MadeLeaves limit n K d)
  pub state : TellsState s status
  pub new : TellsNew d status
  pub sink : TellsSink k status

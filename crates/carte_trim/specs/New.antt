-- A new file, what is planned for it, and what may be left of it.
use Rattle.std.specs.Prelude.{ℕ, ◌≡◌, ◌⊎◌, ◌≤◌, List, length, true, false, None}
use Rattle.carte_io.specs.Disk.{IsSettled, Story}
use Rattle.carte_journal.specs.Journals.{Standing, committed}
use Rattle.carte_journal.specs.Regions.{IsPlannedOn, region_end}
use Rattle.carte_record.specs.Bodies.{IsBody}
use Rattle.carte_record.specs.Empty.{is_empty}
use Rattle.carte_record.specs.Kept.{SomeKept, nothing_kept}
use Rattle.carte_record.specs.declared.batch.Batch.{Batch}
use Rattle.carte_state.specs.Folding.{Keeps}
use Rattle.carte_state.specs.Rewriting.{IsRegionFor}
use Rattle.carte_state.specs.Versions.{InTwo}
use Rattle.carte_trim.specs.declared.plan.Plan.{Plan}

-- the file has at most 9 bytes, all of them on the disk
pub record IsNew (s : Story) : Type 0 where
  pub settled : IsSettled s.now
  pub short : length s.now.reads ≤ 9

-- a file keeps nothing, or this
abbrev pub KeepsEither : ℕ → SomeKept → List ℕ → Type 0
KeepsEither limit L file = Keeps limit (InTwo nothing_kept) file ⊎ Keeps limit (InTwo L) file

-- the journal of a new file
abbrev pub fresh_journal : ℕ → Standing
fresh_journal limit = record { gate = 8; limit = limit; fresh = true; broken = false; bank = None; frames = 0 }

-- a frame of a batch that brings nothing, and a region that makes this, planned behind that frame
pub record IsPlan (limit : ℕ) (L : SomeKept) (p : Plan) : Type 0 where
  pub journal : p.journal ≡ fresh_journal limit
  pub empty : Batch
  pub brings_nothing : is_empty empty ≡ true
  pub body : IsBody empty p.frame
  pub region : IsRegionFor L p.region
  pub planned : IsPlannedOn (committed (fresh_journal limit) p.frame) p.region

-- a file that keeps this needs so many bytes
pub record IsNeeded (limit : ℕ) (L : SomeKept) (needed : ℕ) : Type 0 where
  pub plan : Plan
  pub is : IsPlan limit L plan
  pub needed_is : needed ≡ region_end plan.region

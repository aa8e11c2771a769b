-- What a history shows of its runs: each is a run of the top call over devices in memory.
use Rattle.std.specs.Prelude.{ℕ, ◌≡◌, ◌+◌, ◌-◌, ◌^◌, ◌≤◌, List, [], ◌∷◌, Some, length, min}
use Rattle.carte_io.specs.Crashes.{IsPicked}
use Rattle.carte_io.specs.Disk.{IsImage}
use Rattle.carte_io.specs.MemDisks.{MemoryOfDisk, begun_disk, story_of}
use Rattle.carte_io.specs.Streams.{SinkState, SourceState}
use Rattle.carte_io.specs.declared.crashes.Pick.{Pick}
use Rattle.carte_io.specs.declared.crashes.Pick.TheVariants.{Kept}
use Rattle.carte_report.specs.declared.status.Status.{Status}
use Rattle.carte_report.specs.declared.status.Status.TheVariants.{DiskFault, ReadFault, WriteFault}
use Rattle.carte_state.specs.Around.{over_disk}
use Rattle.carte_top.specs.Around.{Around}
use Rattle.carte_top.specs.Whole.{IsOutcome}
use Rattle.carte_history.specs.declared.run.Run.{Run}
use Rattle.carte_history.specs.declared.run.Shown.{Shown}
use Rattle.carte_history.specs.declared.run.Stop.{Stop}
use Rattle.carte_history.specs.declared.run.Stop.TheVariants as stops

-- a run over devices in memory, before and after it, how it ended, and the file that the next one finds
pub record Ran : Type 0 where
  pub words : List (List ℕ)
  pub book : SourceState
  pub book_after : SourceState
  pub script : SourceState
  pub script_after : SourceState
  pub old : MemoryOfDisk
  pub new : MemoryOfDisk
  pub out : SinkState
  pub out_after : SinkState
  pub err : SinkState
  pub err_after : SinkState
  pub status : Status
  pub file : List ℕ

abbrev pub around_of : Ran → Around
around_of r = record {
  words = r.words;
  book = record { tells = Unit {0}; old = r.book; new = r.book_after };
  script = record { tells = Unit {0}; old = r.script; new = r.script_after };
  state = over_disk (Unit {0}) story_of (λ (m : MemoryOfDisk). m.faults) r.old r.new;
  out = record { tells = Unit {0}; old = r.out; new = r.out_after };
  err = record { tells = Unit {0}; old = r.err; new = r.err_after };
}

-- ---- stops

-- a disk of which so many more calls pass, where the run is cut off
abbrev pub stopped_by : Stop → MemoryOfDisk → MemoryOfDisk
stopped_by stops.None d = d
stopped_by (stops.After calls pick) d = record d { stop = Some (min (length d.passed + calls) (2 ^ 64 - 1)) }

-- what a crash leaves; a run that comes to its end leaves all that it wrote
abbrev pub pick_of : Stop → Pick
pick_of stops.None = Kept
pick_of (stops.After calls pick) = pick

-- as many calls passed as the stop lets pass
abbrev pub IsStopped : Stop → ℕ → Type 0
IsStopped stops.None passed = ⊥
IsStopped (stops.After calls pick) passed = calls ≤ passed

-- a status that no device made but the disk, by the stop
abbrev pub IsOfStop : Status → Stop → ℕ → Type 0
IsOfStop ReadFault stop passed = ⊥
IsOfStop WriteFault stop passed = ⊥
IsOfStop DiskFault stop passed = IsStopped stop passed
IsOfStop status stop passed = Unit {0}

-- and standard error didn't fail
pub record IsAnswered (status : Status) (stop : Stop) (passed faults : ℕ) : Type 0 where
  pub of_stop : IsOfStop status stop passed
  pub none : faults ≡ 0

-- ---- what is shown

-- a source of these bytes, and a sink, of which no call was made
abbrev pub holding : List ℕ → SourceState
holding bytes = record { left = bytes; faults = 0; last = 0; reads = 0 }

abbrev pub bare : SinkState
bare = record { taken = []; handed = 0; faults = 0 }

-- the run over a file: it is one of the top call over the bytes asked for, it ended and wrote as is shown, no device failed but by its stop, and the next one
-- finds the image that a crash leaves, as it is picked
pub record IsShown (limit : ℕ) (file : List ℕ) (run : Run) (shown : Shown) (r : Ran) : Type 0 where
  pub words : r.words ≡ run.words.items
  pub book : r.book ≡ holding run.book.items
  pub script : r.script ≡ holding run.script.items
  pub begins : r.old ≡ stopped_by run.stop (begun_disk file [])
  pub empty : (r.out ≡ bare) × (r.err ≡ bare)
  pub outcome : IsOutcome limit (around_of r) r.status
  pub ended : shown.status ≡ r.status
  pub out : shown.out.items ≡ r.out_after.taken
  pub err : shown.err.items ≡ r.err_after.taken
  pub answered : IsAnswered r.status run.stop (story_of r.new).now.passed r.err_after.faults
  pub picked : IsPicked (pick_of run.stop) (story_of r.new).now r.file
  pub image : IsImage (story_of r.new).now r.file
  pub left : shown.image.items ≡ r.file

-- behind a run over this disk the next one finds that with this image, which a crash leaves, as it is picked
pub record IsNext (stop : Stop) (disk next : MemoryOfDisk) (image : List ℕ) : Type 0 where
  pub picked : IsPicked (pick_of stop) (story_of disk).now image
  pub is_image : IsImage (story_of disk).now image
  pub begins : next ≡ begun_disk image []

-- what is shown of a run that ended so, with what its outputs took and the failures of standard error, over this disk and the next one
pub record IsLeft (stop : Stop) (status : Status) (said told : List ℕ) (faults : ℕ) (disk next : MemoryOfDisk) (shown : Shown) : Type 0 where
  pub answered : IsAnswered status stop (story_of disk).now.passed faults
  pub ended : shown.status ≡ status
  pub out : shown.out.items ≡ said
  pub err : shown.err.items ≡ told
  pub ends : IsNext stop disk next shown.image.items

-- one after another from a file on: each finds what the one before it left
abbrev pub AreShown : ℕ → List ℕ → List Run → List Shown → List Ran → List ℕ → Type 0
AreShown limit file [] [] [] last = last ≡ file
AreShown limit file (run ∷ runs) (s ∷ shown) (r ∷ rans) last = IsShown limit file run s r × AreShown limit r.file runs shown rans last
AreShown limit file runs shown rans last = ⊥

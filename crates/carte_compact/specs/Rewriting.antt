-- What a rewriting with the live information comes to, by its result.
use Rattle.std.specs.Prelude.{◌≡◌, ℕ, ◌+◌, ◌<◌, ◌≤◌, false, List, [], ◌∷◌, Result, Ok, Err}
use Rattle.carte_io.specs.Causes.{Rose}
use Rattle.carte_io.specs.Disk.{CountsUp, moments}
use Rattle.carte_io.specs.Stations.{Step, StepsThrough}
use Rattle.carte_journal.specs.Frames.{BodyAt}
use Rattle.carte_journal.specs.Journals.{broke}
use Rattle.carte_journal.specs.Regions.{IsPlannedOn, IsRegionOf, Planned, bytes_of, calls_to_turn, needs_with, region_end, rewritten}
use Rattle.carte_record.specs.declared.batch.Batch.{Batch}
use Rattle.carte_state.specs.Applying.{IsStill}
use Rattle.carte_state.specs.Around.{OverDisk}
use Rattle.carte_state.specs.Folding.{Keeps}
use Rattle.carte_state.specs.Rewriting.{with_journal}
use Rattle.carte_state.specs.Versions.{AnyKept}
use Rattle.carte_state.specs.States.{IsKeptOn, Stand, any_in}
use Rattle.carte_state.specs.declared.fault.ApplyFault.{ApplyFault}
use Rattle.carte_state.specs.declared.fault.ApplyFault.TheVariants.{DiskFault, Full, NoMemory}
use Rattle.carte_compact.specs.Lengths.{AreBodies, region_length}
use Rattle.carte_compact.specs.Live.{IsLive}

-- the region of the live information, planned on the state's journal, and how many bytes the file needs with it
pub record IsLiveRegion (s : Stand) (p : Planned) : Type 0 where
  pub batches : List Batch
  pub bodies : List BodyAt
  pub live : IsLive s.kept batches
  pub are : AreBodies batches bodies
  pub region : IsRegionOf p (bytes_of bodies)
  pub planned : IsPlannedOn s.journal p
  pub needs : region_end p ≡ needs_with s.journal (region_length batches)

-- a rewriting as a step, from what is kept to the same
abbrev pub step_again : Stand → List (Step AnyKept)
step_again s = record { calls = calls_to_turn s.journal.bank; to = any_in s } ∷ []

-- the region stands in the place of all bodies, for which there was room; what is kept is as it was, list for list
pub record Renews (d : OverDisk) (old new : Stand) : Type 0 where
  pub region : Planned
  pub live : IsLiveRegion old region
  pub room : region_end region ≤ old.journal.limit
  pub after : new ≡ with_journal old (rewritten old.journal region)
  pub whole : new.journal.broken ≡ false
  pub faults : d.failed ≡ d.failed_before
  pub calls : d.tells → d.new.now.passed ≡ d.old.now.passed + calls_to_turn old.journal.bank
  pub rest : d.tells → IsKeptOn old d.old → IsKeptOn new d.new

-- a call of the disk failed in the middle: fewer passed than a rewriting has, and what bodies the file has isn't known any more
pub record Breaks (d : OverDisk) (old new : Stand) : Type 0 where
  pub region : Planned
  pub live : IsLiveRegion old region
  pub room : region_end region ≤ old.journal.limit
  pub after : new ≡ with_journal old (broke old.journal)
  pub later : d.failed_before ≤ d.failed
  pub rose : Rose d.failed_before d.failed
  pub few : d.tells → (d.old.now.passed ≤ d.new.now.passed) × (d.new.now.passed < d.old.now.passed + calls_to_turn old.journal.bank)

-- with the region the file would need so many bytes, which are more than the limit
pub record IsCramped (old : Stand) (needed limit : ℕ) : Type 0 where
  pub region : Planned
  pub live : IsLiveRegion old region
  pub needed_is : needed ≡ region_end region
  pub limit_is : limit ≡ old.journal.limit
  pub over : limit < needed

abbrev pub Renewed : OverDisk → Stand → Stand → Result (Unit {0}) ApplyFault → Type 0
Renewed d old new (Ok done) = Renews d old new
Renewed d old new (Err DiskFault) = Breaks d old new
Renewed d old new (Err (Full needed limit)) = IsCramped old needed limit × IsStill d old new
Renewed d old new (Err NoMemory) = IsStill d old new

-- The file was rewritten, or was not, for this reason. What is kept stays list for list. Where the file kept what the state did, with all of it on the disk: at
-- each moment an image keeps that.
pub record Rewrites (d : OverDisk) (old new : Stand) (result : Result (Unit {0}) ApplyFault) : Type 0 where
  pub comes : Renewed d old new result
  pub limit : new.journal.limit ≡ old.journal.limit
  pub kept : new.kept ≡ old.kept
  pub one : new.one ≡ old.one
  pub steps : d.tells → IsKeptOn old d.old → StepsThrough (Keeps old.journal.limit) (any_in old) (step_again old) d.old d.new
  pub ordered : d.tells → CountsUp (moments d.new)

-- What applying a batch comes to, by its result.
use Rattle.std.specs.Prelude.{◌≡◌, ℕ, ◌+◌, ◌<◌, ◌≤◌, true, false, Result, Ok, Err}
use Rattle.carte_state.specs.Around.{OverDisk, IsUnvisited}
use Rattle.carte_io.specs.Causes.{Rose}
use Rattle.carte_io.specs.Disk.{CountsUp, moments}
use Rattle.carte_io.specs.Stations.{StepsThrough}
use Rattle.carte_record.specs.declared.batch.Batch.{Batch}
use Rattle.carte_record.specs.Empty.{is_empty}
use Rattle.carte_state.specs.Folding.{Keeps}
use Rattle.carte_state.specs.States.{HasRoom, IsAfter, IsKeptOn, Stand, any_in, calls_for, needs_for, step_for}
use Rattle.carte_state.specs.declared.fault.ApplyFault.{ApplyFault}
use Rattle.carte_state.specs.declared.fault.ApplyFault.TheVariants.{DiskFault, Full, NoMemory}

-- nothing has changed, and no call of the disk was made
pub record IsStill (d : OverDisk) (old new : Stand) : Type 0 where
  pub stand : new ≡ old
  pub disk : IsUnvisited d

-- the batch was put into what is kept, for which there was room; an empty one makes no call
pub record Puts (d : OverDisk) (old new : Stand) (B : Batch) : Type 0 where
  pub room : HasRoom old B
  pub after : IsAfter B old new
  pub whole : new.journal.broken ≡ false
  pub faults : d.failed ≡ d.failed_before
  pub still : is_empty B ≡ true → IsStill d old new
  pub calls : d.tells → d.new.now.passed ≡ d.old.now.passed + calls_for old.journal B
  pub rest : d.tells → IsKeptOn old d.old → IsKeptOn new d.new

-- a call of the disk failed in the middle: fewer passed than the batch has, and what the file keeps isn't known any more
pub record Fails (d : OverDisk) (old new : Stand) (B : Batch) : Type 0 where
  pub filled : is_empty B ≡ false
  pub room : needs_for old B ≤ old.journal.limit
  pub broken : new.journal.broken ≡ true
  pub later : d.failed_before ≤ d.failed
  pub rose : Rose d.failed_before d.failed
  pub few : d.tells → (d.old.now.passed ≤ d.new.now.passed) × (d.new.now.passed < d.old.now.passed + calls_for old.journal B)

-- with the batch the file would need so many bytes, which are more than the limit
pub record IsOver (old : Stand) (B : Batch) (needed limit : ℕ) : Type 0 where
  pub filled : is_empty B ≡ false
  pub needed_is : needed ≡ needs_for old B
  pub limit_is : limit ≡ old.journal.limit
  pub over : limit < needed

abbrev pub Comes : OverDisk → Stand → Stand → Batch → Result (Unit {0}) ApplyFault → Type 0
Comes d old new B (Ok done) = Puts d old new B
Comes d old new B (Err DiskFault) = Fails d old new B
Comes d old new B (Err (Full needed limit)) = IsOver old B needed limit × IsStill d old new
Comes d old new B (Err NoMemory) = (is_empty B ≡ false) × IsStill d old new

-- The batch was applied, or was not, for this reason. Where the file kept what the state did, with all of it on the disk: at each moment an image keeps that,
-- or what the batch makes of it, and from its acknowledgement on the latter.
pub record Applies (d : OverDisk) (old new : Stand) (B : Batch) (result : Result (Unit {0}) ApplyFault) : Type 0 where
  pub comes : Comes d old new B result
  pub limit : new.journal.limit ≡ old.journal.limit
  pub steps : d.tells → IsKeptOn old d.old → StepsThrough (Keeps old.journal.limit) (any_in old) (step_for old.journal (any_in old) B) d.old d.new
  pub ordered : d.tells → CountsUp (moments d.new)

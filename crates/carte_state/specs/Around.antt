-- A disk round a call, before and after.
use Rattle.std.specs.Prelude.{ℕ, ◌≡◌}
use Rattle.carte_io.specs.Disk.{Story}

-- a disk over a call: whether its type tells its story, that story, and how often it failed; `same` says that it is the very disk still
pub record OverDisk : Type 1 where
  pub tells : Type 0
  pub old : Story
  pub new : Story
  pub failed_before : ℕ
  pub failed : ℕ
  pub same : Type 0

abbrev pub over_disk : {A : Type 0} → Type 0 → (A → Story) → (A → ℕ) → A → A → OverDisk
over_disk tells story faults old new = record { tells = tells; old = story old; new = story new; failed_before = faults old; failed = faults new; same = new ≡ old }

-- no call of it was made
pub record IsUnvisited (d : OverDisk) : Type 0 where
  pub same : d.same
  pub story : d.new ≡ d.old
  pub faults : d.failed ≡ d.failed_before

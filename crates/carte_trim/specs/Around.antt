-- What a run has round it, before and after.
use Rattle.std.specs.Prelude.{ℕ, ◌≡◌, ◌≤◌, ◌⊎◌, List, ◌++◌, length, take}
use Rattle.carte_io.specs.Causes.{Rose}
use Rattle.carte_io.specs.Disk.{Story}
use Rattle.carte_io.specs.Streams.{SinkState}
pub use Rattle.carte_session.specs.Around.{OverSink}
pub use Rattle.carte_state.specs.Around.{OverDisk, over_disk, IsUnvisited}

abbrev pub over_sink : {A : Type 0} → Type 0 → (A → SinkState) → A → A → OverSink
over_sink tells seen old new = record { tells = tells; old = seen old; new = seen new }

-- a disk over a part of a run, for which it doesn't count whether it is the very disk still
abbrev pub over_part : {A : Type 0} → Type 0 → (A → Story) → (A → ℕ) → A → A → OverDisk
over_part tells story faults old new = record { tells = tells; old = story old; new = story new; failed_before = faults old; failed = faults new; same = Unit {0} }

-- the words, the state, the new one, and what is written
pub record Around : Type 1 where
  pub words : List (List ℕ)
  pub state : OverDisk
  pub new : OverDisk
  pub out : OverSink
  pub err : OverSink

abbrev pub IsUntouched : OverSink → Type 0
IsUntouched k = (k.new.taken ≡ k.old.taken) × (k.new.handed ≡ k.old.handed) × (k.new.faults ≡ k.old.faults)

-- it took just these bytes, and handed on all
abbrev pub TakesAll : OverSink → List ℕ → Type 0
TakesAll k bytes = (k.new.taken ≡ k.old.taken ++ bytes) × (k.new.handed ≡ length k.new.taken)

-- it took some first ones of these bytes
abbrev pub TakesFront : OverSink → List ℕ → Type 0
TakesFront k bytes = (n : ℕ) × (n ≤ length bytes) × (k.new.taken ≡ k.old.taken ++ take n bytes)

-- it took the line and handed it on; or a front of it, and failed
abbrev pub Says : OverSink → List ℕ → Type 0
Says k bytes = ((k.tells → TakesAll k bytes) × (k.new.faults ≡ k.old.faults)) ⊎ ((k.tells → TakesFront k bytes) × Rose k.old.faults k.new.faults)

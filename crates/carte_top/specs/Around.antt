-- What a run has round it, before and after.
use Rattle.std.specs.Prelude.{ℕ, ◌≡◌, ◌≤◌, ◌⊎◌, List, ◌++◌, length, take}
use Rattle.carte_io.specs.Causes.{Rose}
use Rattle.carte_io.specs.Streams.{SinkState, SourceState}
-- a source over a call, and a sink: whether its type tells its bytes, and what it was and is
pub use Rattle.carte_session.specs.Around.{OverSource, OverSink}
-- a disk over a call
pub use Rattle.carte_state.specs.Around.{OverDisk, over_disk, IsUnvisited}

abbrev pub over_source : {A : Type 0} → Type 0 → (A → SourceState) → A → A → OverSource
over_source tells seen old new = record { tells = tells; old = seen old; new = seen new }

abbrev pub over_sink : {A : Type 0} → Type 0 → (A → SinkState) → A → A → OverSink
over_sink tells seen old new = record { tells = tells; old = seen old; new = seen new }

-- all that a run has round it
pub record Around : Type 1 where
  pub words : List (List ℕ)
  pub book : OverSource
  pub script : OverSource
  pub state : OverDisk
  pub out : OverSink
  pub err : OverSink

-- no read of it was made: it is as it was, with the counts of its reads and of its failures
abbrev pub IsUnread : OverSource → Type 0
IsUnread s = (s.new ≡ s.old) × (s.new.faults ≡ s.old.faults)

abbrev pub IsUntouched : OverSink → Type 0
IsUntouched k = (k.new.taken ≡ k.old.taken) × (k.new.handed ≡ k.old.handed) × (k.new.faults ≡ k.old.faults)

-- it took just these bytes, and handed on all
abbrev pub TakesAll : OverSink → List ℕ → Type 0
TakesAll k bytes = (k.new.taken ≡ k.old.taken ++ bytes) × (k.new.handed ≡ length k.new.taken)

-- it took some first ones of these bytes
abbrev pub TakesFront : OverSink → List ℕ → Type 0
TakesFront k bytes = (n : ℕ) × (n ≤ length bytes) × (k.new.taken ≡ k.old.taken ++ take n bytes)

-- it took the line and handed it on; or a front of it, and failed
abbrev pub Says : OverSink → List ℕ → Type 0
Says k bytes = ((k.tells → TakesAll k bytes) × (k.new.faults ≡ k.old.faults)) ⊎ ((k.tells → TakesFront k bytes) × Rose k.old.faults k.new.faults)

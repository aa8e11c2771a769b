-- How a run over real files and streams ends. They tell no bytes, so what is known of each is how often it failed.
use Rattle.std.specs.Prelude.{ℕ, ◌≡◌, ◌⊎◌, List, []}
use Rattle.carte_io.specs.Disk.{untold}
use Rattle.carte_trim.specs.Around.{OverDisk, OverSink}
use Rattle.carte_trim.specs.Whole.{IsOutcome}
use Rattle.carte_trim.specs.declared.status.Status.{Status}
use Rattle.carte_trim.specs.declared.status.Status.TheVariants.{NoMemory}

abbrev pub untold_disk : ℕ → OverDisk
untold_disk n = record { tells = ⊥; old = untold; new = untold; failed_before = 0; failed = n; same = n ≡ 0 }

abbrev pub untold_sink : ℕ → OverSink
untold_sink n = record { tells = ⊥; old = record { taken = []; handed = 0; faults = 0 }; new = record { taken = []; handed = 0; faults = n } }

-- the outcome of the top call, over this state and this new one
pub record OverBoth (words : List (List ℕ)) (state new : OverDisk) (status : Status) : Type 0 where
  pub out : ℕ
  pub err : ℕ
  pub outcome : IsOutcome 536870912 (record { words = words; state = state; new = new; out = untold_sink out; err = untold_sink err }) status

pub record OverState (words : List (List ℕ)) (state : OverDisk) (status : Status) : Type 0 where
  pub new : ℕ
  pub over : OverBoth words state (untold_disk new) status

pub record OverFiles (words : List (List ℕ)) (status : Status) : Type 0 where
  pub state : ℕ
  pub over : OverState words (untold_disk state) status

-- the top call ended so, or there was no memory to make it
abbrev pub Ends : List (List ℕ) → Status → Type 0
Ends words status = OverFiles words status ⊎ (status ≡ NoMemory)

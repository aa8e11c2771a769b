-- How a run over real files and streams ends. They tell no bytes, so what is known of each is how often it failed, and how a script was read.
use Rattle.std.specs.Prelude.{ℕ, ◌≡◌, ◌⊎◌, List, []}
use Rattle.carte_io.specs.Disk.{untold}
use Rattle.carte_io.specs.Streams.{SourceState, unread}
use Rattle.carte_report.specs.declared.status.Status.{Status}
use Rattle.carte_report.specs.declared.status.Status.TheVariants.{NoMemory}
use Rattle.carte_top.specs.Around.{OverSource, OverDisk, OverSink}
use Rattle.carte_top.specs.Whole.{IsOutcome}

abbrev pub untold_source : SourceState → OverSource
untold_source now = record { tells = ⊥; old = unread; new = now }

abbrev pub untold_disk : ℕ → OverDisk
untold_disk n = record { tells = ⊥; old = untold; new = untold; failed_before = 0; failed = n; same = n ≡ 0 }

abbrev pub untold_sink : ℕ → OverSink
untold_sink n = record { tells = ⊥; old = record { taken = []; handed = 0; faults = 0 }; new = record { taken = []; handed = 0; faults = n } }

-- the outcome of the top call, over this book and this state
pub record OverBoth (words : List (List ℕ)) (book : OverSource) (state : OverDisk) (status : Status) : Type 0 where
  pub script : SourceState
  pub out : ℕ
  pub err : ℕ
  pub outcome : IsOutcome 536870912 (record { words = words; book = book; script = untold_source script; state = state; out = untold_sink out; err = untold_sink err }) status

pub record OverBook (words : List (List ℕ)) (book : OverSource) (status : Status) : Type 0 where
  pub state : ℕ
  pub over : OverBoth words book (untold_disk state) status

pub record OverFiles (words : List (List ℕ)) (status : Status) : Type 0 where
  pub book : SourceState
  pub over : OverBook words (untold_source book) status

-- the top call ended so, or there was no memory to make it
abbrev pub Ends : List (List ℕ) → Status → Type 0
Ends words status = OverFiles words status ⊎ (status ≡ NoMemory)

-- All that a run has done: the theorem of the program.
use Rattle.std.specs.Prelude.{ℕ, ◌≡◌, ◌⊎◌, ◌≤◌, ◌<◌, List, length, None}
use Rattle.carte_record.specs.Kept.{SomeKept, nothing_kept}
use Rattle.carte_record_one.specs.Kept.{SomeKeptOne}
use Rattle.carte_state.specs.Folding.{IsBadState, Keeps}
use Rattle.carte_state.specs.Versions.{InOne, InTwo}
use Rattle.carte_trim.specs.Around.{Around, OverDisk}
use Rattle.carte_trim.specs.New.{IsNeeded}
use Rattle.carte_trim.specs.Outcome.{Asks, Ended, IsRun}
use Rattle.carte_trim.specs.Trimmed.{IsTrimmed}
use Rattle.carte_trim.specs.Words.{count_of}
use Rattle.carte_trim.specs.declared.status.Status.{Status}
use Rattle.carte_trim.specs.declared.status.Status.TheVariants.{Done, Usage, WriteFault, StateFault, BadState, Full, NoMemory, NotNew, NewFault, OldState}

-- the disk tells what it reads, and the file keeps this
abbrev pub IsKept : ℕ → OverDisk → (SomeKept → Type 0) → Type 0
IsKept limit s P = s.tells × (K : SomeKept) × Keeps limit (InTwo K) s.old.now.reads × P K

-- and the other file has at most 9 bytes
abbrev pub IsKeptBeside : ℕ → OverDisk → OverDisk → (SomeKept → Type 0) → Type 0
IsKeptBeside limit s d P = IsKept limit s (λ K. d.tells × (length d.old.now.reads ≤ 9) × P K)

-- there is room for it in whatever batches
abbrev pub Fits : ℕ → SomeKept → Type 0
Fits limit L = (needed : ℕ) → IsNeeded limit L needed → needed ≤ limit

-- it is something, and the file needs so many bytes in whatever batches, which are more than the limit
abbrev pub Overfills : ℕ → ℕ → ℕ → SomeKept → Type 0
Overfills limit needed most L = ¬ (L ≡ nothing_kept) × (most ≡ limit) × (limit < needed) × ((other : ℕ) → IsNeeded limit L other → other ≡ needed)

-- Which status is due, where bytes are told: by the words first, then by the state, the new one, and the room in it.
abbrev pub IsDue : ℕ → List (List ℕ) → OverDisk → OverDisk → Status → Type 0
IsDue limit words s d Usage = count_of words ≡ None
IsDue limit words s d (BadState at) = Asks words (λ n. s.tells × IsBadState limit s.old.now.reads at)
IsDue limit words s d OldState = Asks words (λ n. s.tells × (K : SomeKeptOne) × Keeps limit (InOne K) s.old.now.reads)
IsDue limit words s d NotNew = Asks words (λ n. IsKept limit s (λ K. d.tells × (9 < length d.old.now.reads)))
IsDue limit words s d (Full needed most) = Asks words (λ n. IsKeptBeside limit s d (λ K. (L : SomeKept) → IsTrimmed K n L → Overfills limit needed most L))
IsDue limit words s d Done = Asks words (λ n. IsKeptBeside limit s d (λ K. (L : SomeKept) → IsTrimmed K n L → Fits limit L))
IsDue limit words s d status = ⊥

-- a device failed, or memory ran out
abbrev pub IsHindered : Status → Type 0
IsHindered WriteFault = Unit {0}
IsHindered StateFault = Unit {0}
IsHindered NewFault = Unit {0}
IsHindered NoMemory = Unit {0}
IsHindered status = ⊥

-- the status has its cause, and each fault its status; the state isn't written to; whatever crash comes, the new file keeps nothing or what is left; the error
-- line was written; and the status that is due has come, but for want of memory and devices
pub record IsOutcome (limit : ℕ) (a : Around) (status : Status) : Type 0 where
  pub run : IsRun limit a.words a.state a.new a.out status
  pub ended : Ended a.err status
  pub complete : (due : Status) → IsDue limit a.words a.state a.new due → (status ≡ due) ⊎ IsHindered status

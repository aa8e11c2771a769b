-- What a run has done, status by status.
use Rattle.std.specs.Prelude.{ℕ, ◌≡◌, ◌⊎◌, ◌<◌, ◌≤◌, true, List, length, Some, None}
use Rattle.carte_io.specs.Causes.{Rose}
use Rattle.carte_io.specs.Disk.{LeavesOnly}
use Rattle.carte_record.specs.Kept.{SomeKept, nothing_kept}
use Rattle.carte_record_one.specs.Kept.{SomeKeptOne}
use Rattle.carte_state.specs.Folding.{IsBadState, Keeps}
use Rattle.carte_state.specs.Versions.{InOne, InTwo}
use Rattle.carte_trim.specs.Around.{OverDisk, OverSink, IsUnvisited, IsUntouched, Says, TakesAll, TakesFront}
use Rattle.carte_trim.specs.New.{IsNeeded, IsNew, KeepsEither}
use Rattle.carte_trim.specs.Texts.{error_line, is_long, reply}
use Rattle.carte_trim.specs.Trimmed.{IsNumberOf, IsTrimmed}
use Rattle.carte_trim.specs.Words.{count_of}
use Rattle.carte_trim.specs.declared.status.Status.{Status}
use Rattle.carte_trim.specs.declared.status.Status.TheVariants.{Done, Usage, WriteFault, StateFault, BadState, Full, NoMemory, NotNew, NewFault, OldState}

-- the words ask for so many traces of each key
abbrev pub Asks : List (List ℕ) → (ℕ → Type 0) → Type 0
Asks words P = (n : ℕ) × (count_of words ≡ Some n) × P n

-- there is what was found to be kept, and where the disk tells what it reads, that is what its file keeps
abbrev pub Found : ℕ → OverDisk → (SomeKept → Type 0) → Type 0
Found limit s P = (K : SomeKept) × (s.tells → Keeps limit (InTwo K) s.old.now.reads) × P K

-- and so of version 1
abbrev pub FoundOld : ℕ → OverDisk → Type 0
FoundOld limit s = (K : SomeKeptOne) × (s.tells → Keeps limit (InOne K) s.old.now.reads)

-- there is what is left of it
abbrev pub Left : ℕ → SomeKept → (SomeKept → Type 0) → Type 0
Left n K P = (L : SomeKept) × IsTrimmed K n L × P L

-- nothing was written
abbrev pub IsSpared : OverDisk → Type 0
IsSpared d = d.tells → d.new ≡ d.old

abbrev pub IsShort : OverDisk → Type 0
IsShort d = d.tells → length d.old.now.reads ≤ 9

-- this is nothing, and the file was left as it was; or there was room
abbrev pub HasRoomFor : ℕ → OverDisk → SomeKept → Type 0
HasRoomFor limit d L = ((L ≡ nothing_kept) × IsSpared d) ⊎ ((needed : ℕ) × IsNeeded limit L needed × (needed ≤ limit))

-- the file was a new one and keeps this
pub record IsMade (limit : ℕ) (d : OverDisk) (L : SomeKept) : Type 0 where
  pub keeps : d.tells → IsNew d.old → Keeps limit (InTwo L) d.new.now.reads
  pub room : HasRoomFor limit d L

-- with it the file would need so many bytes, which are more than the limit
pub record IsOver (limit : ℕ) (L : SomeKept) (needed most : ℕ) : Type 0 where
  pub needed_is : IsNeeded limit L needed
  pub most_is : most ≡ limit
  pub over : limit < needed

-- the reply has the numbers of traces that are kept and were, the length of the new file, and that of the state's
pub record Replies (of_bytes : ℕ) (d : OverDisk) (k : OverSink) (Takes : OverSink → List ℕ → Type 0) (K L : SomeKept) : Type 0 where
  pub traces : ℕ
  pub of_traces : ℕ
  pub bytes : ℕ
  pub traces_are : IsNumberOf L traces
  pub of_traces_are : IsNumberOf K of_traces
  pub bytes_are : d.tells → bytes ≡ length d.new.now.reads
  pub takes : k.tells → Takes k (reply traces of_traces bytes of_bytes)

-- over what is kept, in a file of so many bytes
abbrev pub Made : ℕ → ℕ → SomeKept → ℕ → OverDisk → OverSink → Status → Type 0
Made limit n K of_bytes d k Done = IsShort d × Left n K (λ L. IsMade limit d L × Replies of_bytes d k TakesAll K L)
Made limit n K of_bytes d k WriteFault = IsShort d × Left n K (λ L. IsMade limit d L × Replies of_bytes d k TakesFront K L)
Made limit n K of_bytes d k (Full needed most) = IsShort d × Left n K (λ L. IsOver limit L needed most) × IsSpared d × IsUntouched k
Made limit n K of_bytes d k NotNew = (d.tells → 9 < length d.old.now.reads) × IsSpared d × IsUntouched k
Made limit n K of_bytes d k NewFault = IsUntouched k
Made limit n K of_bytes d k NoMemory = IsUntouched k
Made limit n K of_bytes d k status = ⊥

abbrev pub MadeOf : ℕ → ℕ → OverDisk → OverDisk → OverSink → Status → Type 0
MadeOf limit n s d k status = Found limit s (λ K. (of_bytes : ℕ) × (s.tells → of_bytes ≡ length s.old.now.reads) × Made limit n K of_bytes d k status)

abbrev pub Did : ℕ → ℕ → OverDisk → OverDisk → OverSink → Status → Type 0
Did limit n s d k StateFault = IsUnvisited d × IsUntouched k
Did limit n s d k (BadState offset) = (s.tells → IsBadState limit s.old.now.reads offset) × IsUnvisited d × IsUntouched k
Did limit n s d k OldState = FoundOld limit s × IsUnvisited d × IsUntouched k
Did limit n s d k NoMemory = IsUntouched k
Did limit n s d k status = MadeOf limit n s d k status

-- first the words are read
abbrev pub Ran : ℕ → List (List ℕ) → OverDisk → OverDisk → OverSink → Status → Type 0
Ran limit words s d k Usage = (count_of words ≡ None) × IsUnvisited s × IsUnvisited d × IsUntouched k
Ran limit words s d k status = Asks words (λ n. Did limit n s d k status)

-- ---- what is left of the new file

-- it wasn't written to; or it was a new one, and at each moment an image of it keeps nothing or what is left
abbrev pub MadeLeaves : ℕ → ℕ → SomeKept → OverDisk → Type 0
MadeLeaves limit n K d = IsSpared d ⊎ (IsShort d × Left n K (λ L. d.tells → IsNew d.old → LeavesOnly d.old d.new (KeepsEither limit L)))

abbrev pub Leaves : ℕ → List (List ℕ) → OverDisk → OverDisk → Type 0
Leaves limit words s d = IsSpared d ⊎ Asks words (λ n. Found limit s (λ K. MadeLeaves limit n K d))

-- ---- a device's fault is told, and by its own status

abbrev pub TellsState : OverDisk → Status → Type 0
TellsState s StateFault = Rose s.failed_before s.failed
TellsState s status = s.failed ≡ s.failed_before

abbrev pub TellsNew : OverDisk → Status → Type 0
TellsNew d NewFault = Rose d.failed_before d.failed
TellsNew d status = d.failed ≡ d.failed_before

abbrev pub TellsSink : OverSink → Status → Type 0
TellsSink k WriteFault = Rose k.old.faults k.new.faults
TellsSink k status = k.new.faults ≡ k.old.faults

-- ---- what is written

abbrev pub Prints : List ℕ → OverSink → Status → Type 0
Prints bytes k Done = (k.tells → TakesAll k bytes) × (k.new.faults ≡ k.old.faults)
Prints bytes k WriteFault = (k.tells → TakesFront k bytes) × Rose k.old.faults k.new.faults
Prints bytes k status = ⊥

abbrev pub Ended : OverSink → Status → Type 0
Ended k Done = IsUntouched k
Ended k status = Says k (error_line status)

-- the status stays, but that memory may run out for its line
abbrev pub Reports : Status → Status → Type 0
Reports old new = (new ≡ old) ⊎ ((is_long old ≡ true) × (new ≡ NoMemory))

-- ---- all of it

-- a run but for its error line
pub record IsRun (limit : ℕ) (words : List (List ℕ)) (s d : OverDisk) (k : OverSink) (status : Status) : Type 0 where
  pub ran : Ran limit words s d k status
  pub spared : IsSpared s
  pub leaves : Leaves limit words s d
  pub state : TellsState s status
  pub new : TellsNew d status
  pub sink : TellsSink k status

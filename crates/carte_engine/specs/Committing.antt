-- A commit, before which the state's file is rewritten where that is due.
use Rattle.std.specs.Prelude.{ℕ, ◌≡◌, ◌⊎◌, ◌+◌, ◌<◌, ◌≤◌, Bool, true, false, List, [], ◌∷◌, ◌++◌, Result, Ok, Err}
use Rattle.std.proofs.Common.{inl, inr}
use Rattle.carte_io.specs.Disk.{Story}
use Rattle.carte_io.specs.Stations.{Step, calls_in}
use Rattle.carte_journal.specs.Journals.{Standing}
use Rattle.carte_journal.specs.Regions.{Planned, rewritten}
use Rattle.carte_record.specs.declared.batch.Batch.{Batch}
use Rattle.carte_record.specs.Empty.{is_empty}
use Rattle.carte_state.specs.Applying.{Applies, IsStill}
use Rattle.carte_state.specs.Around.{OverDisk}
use Rattle.carte_state.specs.Rewriting.{with_journal}
use Rattle.carte_state.specs.States.{HasRoom, IsAfter, Stand, any_in, needs_for, step_for}
use Rattle.carte_state.specs.Versions.{AnyKept}
use Rattle.carte_state.specs.declared.fault.ApplyFault.{ApplyFault}
use Rattle.carte_state.specs.declared.fault.ApplyFault.TheVariants.{DiskFault, Full, NoMemory}
use Rattle.carte_compact.specs.Due.{is_due}
use Rattle.carte_compact.specs.Lengths.{region_length}
use Rattle.carte_compact.specs.Live.{IsLive}
use Rattle.carte_compact.specs.Rewriting.{IsLiveRegion, Rewrites, step_again}

-- ---- when

-- A rewriting is due before the batch. Before the first one of a build, and before a clearing, it is also due where the bank is large beside what is live.
abbrev pub IsDue : Bool → Stand → Batch → Type 0
IsDue first s B = (live : List Batch) → IsLive s.kept live → is_due s (region_length live) B first ≡ true

abbrev pub IsNotDue : Bool → Stand → Batch → Type 0
IsNotDue first s B = (live : List Batch) → IsLive s.kept live → is_due s (region_length live) B first ≡ false

-- how the state stands when the batch is put: as it was, or, where that is due, with its live information in the place of all that its file held
abbrev pub IsBase : Bool → Stand → Batch → Stand → Type 0
IsBase first s B base = (IsNotDue first s B × (base ≡ s)) ⊎ (IsDue first s B × (region : Planned) × IsLiveRegion s region × (base ≡ with_journal s (rewritten s.journal region)))

-- ---- on the disk

-- a disk by its story and its faults alone
abbrev pub seen : OverDisk → OverDisk
seen d = record { tells = d.tells; old = d.old; new = d.new; failed_before = d.failed_before; failed = d.failed; same = Unit {0} }

-- up to a moment at which no call had failed, and from there on
abbrev pub until : OverDisk → Story → OverDisk
until d between = record { tells = d.tells; old = d.old; new = between; failed_before = d.failed_before; failed = d.failed_before; same = Unit {0} }

abbrev pub behind : OverDisk → Story → OverDisk
behind d between = record { tells = d.tells; old = between; new = d.new; failed_before = d.failed_before; failed = d.failed; same = Unit {0} }

-- nothing was done, or the file was rewritten, where that is due
abbrev pub Readies : Bool → OverDisk → Stand → Batch → Stand → Type 0
Readies first d old B base =
    (IsNotDue first old B × (base ≡ old) × (d.new ≡ d.old) × (d.failed ≡ d.failed_before)) ⊎ (IsDue first old B × Rewrites d old base (Ok tt))

-- as steps: none, or one from what is kept to the same
abbrev pub steps_ready : (first : Bool) (d : OverDisk) (old base : Stand) (B : Batch) → Readies first d old B base → List (Step AnyKept)
steps_ready first d old base B (inl plain) = []
steps_ready first d old base B (inr turned) = step_again old

-- ---- one batch

-- the file was made ready, and then the batch was put, or was not
pub record Follows (first : Bool) (d : OverDisk) (old new : Stand) (B : Batch) (result : Result (Unit {0}) ApplyFault) : Type 0 where
  pub base : Stand
  pub between : Story
  pub ready : Readies first (until d between) old B base
  pub applies : Applies (behind d between) base new B result

-- the disk failed while the file was rewritten
pub record Breaks (first : Bool) (d : OverDisk) (old new : Stand) (B : Batch) (fault : ApplyFault) : Type 0 where
  pub due : IsDue first old B
  pub is : fault ≡ DiskFault
  pub rewrites : Rewrites d old new (Err DiskFault)

-- there was no memory to tell whether a rewriting is due, or to plan it, and nothing has changed
pub record Lacks (d : OverDisk) (old new : Stand) (fault : ApplyFault) : Type 0 where
  pub is : fault ≡ NoMemory
  pub still : IsStill d old new

-- so the file wasn't made ready, for this reason
abbrev pub Unreadied : Bool → OverDisk → Stand → Stand → Batch → ApplyFault → Type 0
Unreadied first d old new B fault = Breaks first d old new B fault ⊎ Lacks d old new fault

-- A batch is put into what is kept, or is not, for this reason; where it is due, the file is rewritten first.
abbrev pub Commits : Bool → OverDisk → Stand → Stand → Batch → Result (Unit {0}) ApplyFault → Type 0
Commits first d old new B result = Follows first d old new B result ⊎ ((fault : ApplyFault) × (result ≡ Err fault) × Unreadied first d old new B fault)

-- as a step: that of the batch, where a call of it was made
abbrev pub step_begun : Standing → AnyKept → Batch → Result (Unit {0}) ApplyFault → List (Step AnyKept)
step_begun j K B (Ok done) = step_for j K B
step_begun j K B (Err DiskFault) = step_for j K B
step_begun j K B (Err (Full needed limit)) = []
step_begun j K B (Err NoMemory) = []

-- as steps: that of the rewriting, where one was begun, and that of the batch
abbrev pub steps_once : (first : Bool) (d : OverDisk) (old new : Stand) (B : Batch) (result : Result (Unit {0}) ApplyFault) → Commits first d old new B result → List (Step AnyKept)
steps_once first d old new B result (inl f) = steps_ready first (until d f.between) old f.base B f.ready ++ step_begun f.base.journal (any_in old) B result
steps_once first d old new B result (inr (fault, is, inl breaks)) = step_again old
steps_once first d old new B result (inr (fault, is, inr lacks)) = []

-- ---- several batches, one after another

-- all of them were put
abbrev pub PutsAll : Bool → OverDisk → Stand → List Batch → Stand → Type 0
PutsAll first d old [] new = (new ≡ old) × (d.new ≡ d.old) × (d.failed ≡ d.failed_before)
PutsAll first d old (B ∷ Bs) new = (mid : Stand) × (between : Story) × Commits first (until d between) old mid B (Ok tt) × PutsAll false (behind d between) mid Bs new

abbrev pub steps_put : (first : Bool) (d : OverDisk) (old : Stand) (Bs : List Batch) (new : Stand) → PutsAll first d old Bs new → List (Step AnyKept)
steps_put first d old [] new none = []
steps_put first d old (B ∷ Bs) new (mid, between, commits, puts) =
    steps_once first (until d between) old mid B (Ok tt) commits ++ steps_put false (behind d between) mid Bs new puts

-- whether a batch is the first of its build, by those before it
abbrev pub is_first : List Batch → Bool
is_first [] = true
is_first (B ∷ Bs) = false

-- those in front were put, and the next one was not, for this reason
pub record StopsAt (d : OverDisk) (old : Stand) (Bs : List Batch) (new : Stand) (fault : ApplyFault) : Type 0 where
  pub front : List Batch
  pub batch : Batch
  pub rest : List Batch
  pub all : Bs ≡ front ++ batch ∷ rest
  pub mid : Stand
  pub between : Story
  pub puts : PutsAll true (until d between) old front mid
  pub stops : Commits (is_first front) (behind d between) mid new batch (Err fault)

abbrev pub steps_stopped : (d : OverDisk) (old : Stand) (Bs : List Batch) (new : Stand) (fault : ApplyFault) → StopsAt d old Bs new fault → List (Step AnyKept)
steps_stopped d old Bs new fault s =
    steps_put true (until d s.between) old s.front s.mid s.puts ++ steps_once (is_first s.front) (behind d s.between) s.mid new s.batch (Err fault) s.stops

-- the batches of a build, or of a clearing: all were put, or some of them
abbrev pub CommitsAll : OverDisk → Stand → Stand → List Batch → Result (Unit {0}) ApplyFault → Type 0
CommitsAll d old new Bs (Ok done) = PutsAll true d old Bs new
CommitsAll d old new Bs (Err fault) = StopsAt d old Bs new fault

abbrev pub steps_all : (d : OverDisk) (old new : Stand) (Bs : List Batch) (result : Result (Unit {0}) ApplyFault) → CommitsAll d old new Bs result → List (Step AnyKept)
steps_all d old new Bs (Ok done) puts = steps_put true d old Bs new puts
steps_all d old new Bs (Err fault) stops = steps_stopped d old Bs new fault stops

-- how many calls have passed: those of all steps; or, where the disk failed, fewer, and no fewer than those of the batches in front, behind which that was the story
abbrev pub HasPassed : OverDisk → Story → List (Step AnyKept) → ApplyFault → Type 0
HasPassed d between steps DiskFault = (between.now.passed ≤ d.new.now.passed) × (d.new.now.passed < d.old.now.passed + calls_in steps)
HasPassed d between steps (Full needed limit) = d.new.now.passed ≡ d.old.now.passed + calls_in steps
HasPassed d between steps NoMemory = d.new.now.passed ≡ d.old.now.passed + calls_in steps

-- ---- room

-- there is room for each of them, in the file as it stands when it is put
abbrev pub FitAll : Bool → Stand → List Batch → Type 0
FitAll first s [] = Unit {0}
FitAll first s (B ∷ Bs) = (base : Stand) → IsBase first s B base → HasRoom base B × ((mid : Stand) → IsAfter B base mid → FitAll false mid Bs)

-- one of them has none, with which the file would need so many bytes
abbrev pub Overfill : ℕ → Bool → Stand → List Batch → Type 0
Overfill needed first s [] = ⊥
Overfill needed first s (B ∷ Bs) = (base : Stand) → IsBase first s B base
    → ((is_empty B ≡ false) × (needed ≡ needs_for base B) × (base.journal.limit < needed)) ⊎ (HasRoom base B × ((mid : Stand) → IsAfter B base mid → Overfill needed false mid Bs))

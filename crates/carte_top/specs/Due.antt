-- Which status is due, where bytes are told: by the words first, then by the book, the state, the room for the batches, and last by what a build answers, or by the script of a session.
use Rattle.std.specs.Prelude.{ℕ, ◌≡◌, ◌<◌, ◌≤◌, List, [], ◌∷◌, ◌++◌, length, Ok, Err}
use Rattle.carte_name.specs.declared.kind.Kind.{Kind}
use Rattle.carte_book.specs.Book.{Book}
use Rattle.carte_book.specs.Reason.{AllClean, IsReason}
use Rattle.carte_record.specs.declared.batch.Batch.{Batch}
use Rattle.carte_sound.specs.Base.{HasDistinctDigests}
use Rattle.carte_session.specs.Lines.{lines_of}
use Rattle.carte_state.specs.Folding.{Keeps, IsBadState}
use Rattle.carte_words.specs.Words.{words_of}
use Rattle.carte_words.specs.declared.words.Command.{Command}
use Rattle.carte_words.specs.declared.words.Command.TheVariants as command
use Rattle.carte_words.specs.declared.words.Words.{Words as Asked}
use Rattle.carte_engine.specs.declared.answer.Answer.{Answer}
use Rattle.carte_engine.specs.Answers.{IsPlan}
use Rattle.carte_engine.specs.Schedulers.{IsServed, IsRefusedFor}
use Rattle.carte_report.specs.declared.status.Status.{Status}
use Rattle.carte_report.specs.declared.status.Status.TheVariants.{Done, BookRefused, Usage, BuildRefused, ReadFault, WriteFault, DiskFault, BadState, StateFull, NoMemory}
use Rattle.carte_shell.specs.Lasting.{AllFit as AllLinesFit}
use Rattle.carte_shell.specs.Scenes.{Scene}
use Rattle.carte_top.specs.Around.{OverSource, OverDisk}
use Rattle.carte_top.specs.Chosen.{scheduler_of, how_of, BookOfKind}
use Rattle.carte_top.specs.Found.{AreClearing, Begins, FitsIn, IsNeeded, Makes, for_last}
use Rattle.carte_top.specs.Outcome.{Asks}
use Rattle.carte_engine.specs.Versions.{IsSoundAny}
use Rattle.carte_state.specs.Versions.{AnyKept}

-- ---- what is there

-- the source tells its bytes, and they are such a book
abbrev pub IsBook : Kind → OverSource → (Book → Type 0) → Type 0
IsBook kind s P = s.tells × (b : Book) × BookOfKind kind s.old.left (Ok b) × P b

-- the disk tells what it reads, and the file keeps this
abbrev pub IsKept : ℕ → OverDisk → (AnyKept → Type 0) → Type 0
IsKept limit d P = d.tells × (K : AnyKept) × Keeps limit K d.old.now.reads × P K

-- which is sound for a history, whose digests and the book's are distinct
abbrev pub IsFound : ℕ → OverDisk → Book → (AnyKept → Type 0) → Type 0
IsFound limit d b P = IsKept limit d (λ K. (H : List Book) × IsSoundAny K H × HasDistinctDigests (H ++ b ∷ []) × P K)

abbrev pub IsBadNow : ℕ → OverDisk → ℕ → Type 0
IsBadNow limit d at = d.tells × IsBadState limit d.old.now.reads at

-- ---- room

-- the batches are those of a right plan
abbrev pub IsPlanned : Asked → Book → AnyKept → List Batch → Type 0
IsPlanned w b K Bs = (a : Answer) × IsPlan (scheduler_of w.scheduler) (how_of w.rebuilder) K b w.targets Bs a

-- there is room for all such batches
abbrev pub AllFit : ℕ → OverDisk → (List Batch → Type 0) → Type 0
AllFit limit d May = (Bs : List Batch) → May Bs → FitsIn limit d.old.now.reads Bs

-- wherever there are such batches, there is one of them with which the file needs just so many bytes, which are more than the limit
abbrev pub AllOver : ℕ → OverDisk → ℕ → ℕ → (List Batch → Type 0) → Type 0
AllOver limit d needed most May = (most ≡ limit) × (limit < needed) × ((Bs : List Batch) → May Bs → IsNeeded limit d.old.now.reads Bs needed)

-- ---- the status

-- of a build over a book that is there so
abbrev pub IsDueOver : ((Book → Type 0) → Type 0) → ℕ → Asked → OverDisk → Status → Type 0
IsDueOver Is limit w d Done = Is (λ b. IsServed (scheduler_of w.scheduler) b w.targets × IsFound limit d b (λ K. AllFit limit d (IsPlanned w b K)))
IsDueOver Is limit w d (BuildRefused reason) = Is (λ b. IsRefusedFor (scheduler_of w.scheduler) b w.targets reason × IsFound limit d b (λ K. AllFit limit d (IsPlanned w b K)))
IsDueOver Is limit w d (BadState at) = Is (λ b. IsBadNow limit d at)
IsDueOver Is limit w d (StateFull needed most) = Is (λ b. IsFound limit d b (λ K. AllOver limit d needed most (IsPlanned w b K)))
IsDueOver Is limit w d _ = ⊥

abbrev pub IsBuildDue : ℕ → Asked → OverSource → OverDisk → Status → Type 0
IsBuildDue limit w s d (BookRefused fault) = s.tells × BookOfKind w.kind s.old.left (Err fault)
IsBuildDue limit w s d due = IsDueOver (IsBook w.kind s) limit w d due

abbrev pub IsGenerateDue : ℕ → Asked → OverDisk → Status → Type 0
IsGenerateDue limit w d due = IsDueOver (Makes w) limit (for_last w) d due

abbrev pub IsCleanDue : ℕ → OverDisk → Status → Type 0
IsCleanDue limit d Done = IsKept limit d (λ K. AllFit limit d (AreClearing K))
IsCleanDue limit d (BadState at) = IsBadNow limit d at
IsCleanDue limit d (StateFull needed most) = IsKept limit d (λ K. AllOver limit d needed most (AreClearing K))
IsCleanDue limit d _ = ⊥

abbrev pub IsExplainDue : ℕ → Asked → OverSource → OverDisk → Status → Type 0
IsExplainDue limit w s d Done = IsBook w.kind s (λ b. AllClean b w.targets × IsFound limit d b (λ K. Unit {0}))
IsExplainDue limit w s d (BookRefused fault) = s.tells × BookOfKind w.kind s.old.left (Err fault)
IsExplainDue limit w s d (BuildRefused reason) = IsBook w.kind s (λ b. IsReason b w.targets reason × IsFound limit d b (λ K. Unit {0}))
IsExplainDue limit w s d (BadState at) = IsBook w.kind s (λ b. IsBadNow limit d at)
IsExplainDue limit w s d _ = ⊥

-- there is room for all batches that a line of the script may bring, wherever the lines before it lead
abbrev pub LinesFit : ℕ → Asked → OverSource → OverDisk → Book → AnyKept → Type 0
LinesFit limit w c d b K = (m : Scene) → Begins limit w d b K m → AllLinesFit d.tells m (lines_of c.old.left)

-- the lines are carried out and answered where the script's bytes are told and within the limit, and there is room
abbrev pub IsSessionDue : ℕ → Asked → OverSource → OverSource → OverDisk → Status → Type 0
IsSessionDue limit w s c d Done = IsBook w.kind s (λ b. c.tells × (length c.old.left ≤ 67108864) × IsKept limit d (LinesFit limit w c d b))
IsSessionDue limit w s c d (BookRefused fault) = s.tells × BookOfKind w.kind s.old.left (Err fault)
IsSessionDue limit w s c d (BadState at) = IsBook w.kind s (λ b. IsBadNow limit d at)
IsSessionDue limit w s c d _ = ⊥

abbrev pub IsDueFor : Command → ℕ → Asked → OverSource → OverSource → OverDisk → Status → Type 0
IsDueFor command.Build limit w s c d due = IsBuildDue limit w s d due
IsDueFor command.Session limit w s c d due = IsSessionDue limit w s c d due
IsDueFor command.Explain limit w s c d due = IsExplainDue limit w s d due
IsDueFor command.Clean limit w s c d due = IsCleanDue limit d due
IsDueFor command.Generate limit w s c d due = IsGenerateDue limit w d due

abbrev pub IsDue : ℕ → List (List ℕ) → OverSource → OverSource → OverDisk → Status → Type 0
IsDue limit words s c d (Usage fault) = words_of words ≡ Err fault
IsDue limit words s c d due = Asks words (λ w. IsDueFor w.command limit w s c d due)

-- ---- no room

-- there is room for no list of such batches; how many bytes the file would need may hang on the order in which their keys were finished
abbrev pub NoneFit : ℕ → OverDisk → (List Batch → Type 0) → Type 0
NoneFit limit d May = (Bs : List Batch) → May Bs → (needed : ℕ) × IsNeeded limit d.old.now.reads Bs needed

-- so it is for a build over a book that is there so
abbrev pub IsFullOver : ((Book → Type 0) → Type 0) → ℕ → Asked → OverDisk → Type 0
IsFullOver Is limit w d = Is (λ b. IsFound limit d b (λ K. NoneFit limit d (IsPlanned w b K)))

abbrev pub IsFullFor : Command → ℕ → OverSource → OverDisk → Asked → Type 0
IsFullFor command.Build limit s d w = IsFullOver (IsBook w.kind s) limit w d
IsFullFor command.Generate limit s d w = IsFullOver (Makes w) limit (for_last w) d
IsFullFor _ limit s d w = ⊥

abbrev pub IsFullDue : ℕ → List (List ℕ) → OverSource → OverDisk → Type 0
IsFullDue limit words s d = Asks words (λ w. IsFullFor w.command limit s d w)

-- and it is told, with some number of bytes
abbrev pub IsFull : Status → Type 0
IsFull (StateFull needed most) = Unit {0}
IsFull _ = ⊥

-- a device failed, or memory ran out
abbrev pub IsHindered : Status → Type 0
IsHindered ReadFault = Unit {0}
IsHindered WriteFault = Unit {0}
IsHindered DiskFault = Unit {0}
IsHindered NoMemory = Unit {0}
IsHindered _ = ⊥

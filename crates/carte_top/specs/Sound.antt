-- What a crash may leave of the state, at any moment of a run.
use Rattle.std.specs.Prelude.{ℕ, ◌≡◌, ◌⊎◌, List, [], ◌∷◌, ◌++◌}
use Rattle.carte_io.specs.Disk.{IsSettled, LeavesOnly}
use Rattle.carte_book.specs.Book.{Book}
use Rattle.carte_record.specs.declared.batch.Batch.{Batch}
use Rattle.carte_sound.specs.Base.{HasDistinctDigests}
use Rattle.carte_session.specs.Lines.{lines_of}
use Rattle.carte_state.specs.Folding.{Keeps}
use Rattle.carte_words.specs.declared.words.Command.{Command}
use Rattle.carte_words.specs.declared.words.Command.TheVariants as command
use Rattle.carte_words.specs.declared.words.Words.{Words as Asked}
use Rattle.carte_engine.specs.declared.answer.Answer.{Answer}
use Rattle.carte_engine.specs.Answers.{IsPlan}
use Rattle.carte_shell.specs.Books.{AreBooks as AreBooksAt}
use Rattle.carte_top.specs.Around.{OverSource, OverDisk, IsUnvisited}
use Rattle.carte_top.specs.Chosen.{scheduler_of, how_of}
use Rattle.carte_top.specs.Found.{AreClearing, Holds, HasBook, Makes, for_last}
use Rattle.carte_top.specs.Outcome.{Asks, IsSpared}
pub use Rattle.carte_shell.specs.Sound.{KeepsSound}
use Rattle.carte_engine.specs.Versions.{Under}
use Rattle.carte_state.specs.Versions.{AnyKept}
use Rattle.carte_state.specs.Runs.{applied_to}

-- a file keeps what was kept before a run, or what such batches make of that, of which the first ones were put
abbrev pub IsStation : ℕ → (AnyKept → List Batch → Type 0) → AnyKept → List ℕ → Type 0
IsStation limit May K file = Keeps limit K file ⊎ ((some rest : List Batch) × May K (some ++ rest) × Keeps limit (applied_to K some) file)

-- at each moment an image of the file does
abbrev pub StaysAt : ℕ → (AnyKept → List Batch → Type 0) → OverDisk → Type 0
StaysAt limit May d = d.tells → IsSettled d.old.now → (K : AnyKept) → Keeps limit K d.old.now.reads → LeavesOnly d.old d.new (IsStation limit May K)

-- the batches are those that a build with a right answer may commit
abbrev pub MayBuild : Asked → Book → AnyKept → List Batch → Type 0
MayBuild w b K Bs = Under K b ((a : Answer) × IsPlan (scheduler_of w.scheduler) (how_of w.rebuilder) K b w.targets Bs a)

-- ---- soundness

-- at each moment an image of the file keeps what is sound for the history with these books behind it
abbrev pub StaysSound : ℕ → List Book → OverDisk → Type 0
StaysSound limit J d = d.tells → IsSettled d.old.now → (H : List Book) → KeepsSound limit H d.old.now.reads → HasDistinctDigests (H ++ J) → LeavesOnly d.old d.new (KeepsSound limit (H ++ J))

-- the books at the first lines of a script, over this one
pub record AreFirst (c : OverSource) (b : Book) (J : List Book) : Type 0 where
  pub lines : List (List ℕ)
  pub first : c.tells → (later : List (List ℕ)) × (lines_of c.old.left ≡ lines ++ later)
  pub last : Book
  pub books : AreBooksAt b lines J last

-- ---- the disk

abbrev pub SessionStays : ℕ → Asked → OverSource → OverSource → OverDisk → Type 0
SessionStays limit w s c d = Holds w.kind s (λ b. (J : List Book) × AreFirst c b J × StaysSound limit J d)

abbrev pub KeepsOn : Command → ℕ → Asked → OverSource → OverSource → OverDisk → Type 0
KeepsOn command.Build limit w s c d = Holds w.kind s (λ b. StaysAt limit (MayBuild w b) d)
KeepsOn command.Session limit w s c d = SessionStays limit w s c d
KeepsOn command.Explain limit w s c d = HasBook w.kind s × IsSpared d
KeepsOn command.Clean limit w s c d = StaysAt limit AreClearing d
KeepsOn command.Generate limit w s c d = Makes w (λ b. StaysAt limit (MayBuild (for_last w) b) d)

-- The disk was called for a build, an explanation or a session whose book was read, for a build of a generated book, or for a clearing; and then a crash leaves what is said above. What it
-- leaves at a line of a session is said of that line (`Carries`).
abbrev pub Visits : ℕ → List (List ℕ) → OverSource → OverSource → OverDisk → Type 0
Visits limit words s c d = IsUnvisited d ⊎ Asks words (λ w. KeepsOn w.command limit w s c d)

-- the books of a run, where they were read or made: that of a build, and those at the first lines of a session; a run with none adds none to the history
abbrev pub AreReadFor : Command → Asked → OverSource → OverSource → List Book → Type 0
AreReadFor command.Build w s c J = Holds w.kind s (λ b. J ≡ b ∷ [])
AreReadFor command.Session w s c J = Holds w.kind s (λ b. AreFirst c b J)
AreReadFor command.Explain w s c J = ⊥
AreReadFor command.Clean w s c J = ⊥
AreReadFor command.Generate w s c J = Makes w (λ b. J ≡ b ∷ [])

abbrev pub AreRead : List (List ℕ) → OverSource → OverSource → List Book → Type 0
AreRead words s c J = (J ≡ []) ⊎ Asks words (λ w. AreReadFor w.command w s c J)

-- whatever the status is
abbrev pub IsSoundRun : ℕ → List (List ℕ) → OverSource → OverSource → OverDisk → Type 0
IsSoundRun limit words s c d = (J : List Book) × AreRead words s c J × StaysSound limit J d

-- Runs of the program one after another over one state, each of which a crash may cut off at any moment.
use Rattle.std.specs.Prelude.{ℕ, ◌≡◌, ◌⊎◌, List, [], ◌∷◌, ◌++◌, Ok, Err}
use Rattle.carte_io.specs.Disk.{IsImage, IsSettled, Moment, Story, moments}
use Rattle.carte_io.specs.Streams.{SinkState, SourceState}
use Rattle.carte_value.specs.Lists.{Has}
use Rattle.carte_book.specs.Book.{Book}
use Rattle.carte_session.specs.Lines.{lines_of}
use Rattle.carte_shell.specs.Books.{AreBooks as AreBooksAt}
use Rattle.carte_sound.specs.Base.{HasDistinctDigests}
use Rattle.carte_words.specs.Words.{words_of}
use Rattle.carte_name.specs.declared.kind.Kind.{Kind}
use Rattle.carte_words.specs.declared.fault.WordsFault.{WordsFault}
use Rattle.carte_words.specs.declared.words.Command.{Command}
use Rattle.carte_words.specs.declared.words.Command.TheVariants as command
use Rattle.carte_words.specs.declared.words.Words.{Words as Asked}
use Rattle.carte_report.specs.declared.status.Status.{Status}
use Rattle.carte_top.specs.Around.{Around}
use Rattle.carte_top.specs.Chosen.{BookOfKind}
use Rattle.carte_top.specs.Found.{Makes}
use Rattle.carte_top.specs.Outcome.{Asks}
use Rattle.carte_top.specs.Sound.{KeepsSound}
use Rattle.carte_top.specs.Whole.{IsOutcome}

-- a run over devices that tell all, before and after, how it ended, and the file that it leaves to the next run
pub record Run : Type 0 where
  pub words : List (List ℕ)
  pub book : SourceState
  pub book_after : SourceState
  pub script : SourceState
  pub script_after : SourceState
  pub old : Story
  pub new : Story
  pub failed_before : ℕ
  pub failed : ℕ
  pub out : SinkState
  pub out_after : SinkState
  pub err : SinkState
  pub err_after : SinkState
  pub status : Status
  pub file : List ℕ

abbrev pub around_of : Run → Around
around_of r = record {
  words = r.words;
  book = record { tells = Unit {0}; old = r.book; new = r.book_after };
  script = record { tells = Unit {0}; old = r.script; new = r.script_after };
  state = record { tells = Unit {0}; old = r.old; new = r.new; failed_before = r.failed_before; failed = r.failed; same = r.new ≡ r.old };
  out = record { tells = Unit {0}; old = r.out; new = r.out_after };
  err = record { tells = Unit {0}; old = r.err; new = r.err_after };
}

-- a crash at one of these moments may leave the file; at the last of them, so may a run that came to its end
pub record IsLeft (old new : Story) (file : List ℕ) : Type 0 where
  pub later : List Moment
  pub goes_on : moments new ≡ later ++ moments old
  pub moment : Moment
  pub passed : Has (old.now ∷ later) moment
  pub image : IsImage moment file

-- a run that finds this file, all of it on the disk
pub record IsRunFrom (limit : ℕ) (file : List ℕ) (r : Run) : Type 0 where
  pub found : r.old.now.reads ≡ file
  pub settled : IsSettled r.old.now
  pub outcome : IsOutcome limit (around_of r) r.status
  pub left : IsLeft r.old r.new r.file

-- the bytes are a book that has these behind it, or none, which has none
abbrev pub HasBehind : Kind → List ℕ → (Book → List Book → Type 0) → List Book → Type 0
HasBehind kind bytes Behind J = (((b : Book) → ¬ (BookOfKind kind bytes (Ok b))) × (J ≡ [])) ⊎ ((b : Book) × BookOfKind kind bytes (Ok b) × Behind b J)

-- that of a build or an explanation, read or generated; those at the lines of a session that build or explain, and edits stand between them
abbrev pub AreBooksFor : Command → Asked → List ℕ → List ℕ → List Book → Type 0
AreBooksFor command.Build w book script J = HasBehind w.kind book (λ b I. I ≡ b ∷ []) J
AreBooksFor command.Session w book script J = HasBehind w.kind book (λ b I. (c : Book) × AreBooksAt b (lines_of script) I c) J
AreBooksFor command.Explain w book script J = HasBehind w.kind book (λ b I. I ≡ b ∷ []) J
AreBooksFor command.Clean w book script J = J ≡ []
AreBooksFor command.Generate w book script J = Makes w (λ b. J ≡ b ∷ [])

-- the books of a run
abbrev pub AreBooks : Run → List Book → Type 0
AreBooks r J = ((fault : WordsFault) × (words_of r.words ≡ Err fault) × (J ≡ [])) ⊎ Asks r.words (λ w. AreBooksFor w.command w r.book.left r.script.left J)

-- runs from a file to a file, over these books
abbrev pub AreRuns : ℕ → List ℕ → List Run → List Book → List ℕ → Type 0
AreRuns limit file [] H last = (H ≡ []) × (last ≡ file)
AreRuns limit file (r ∷ rs) H last = (J rest : List Book) × (H ≡ J ++ rest) × AreBooks r J × IsRunFrom limit file r × AreRuns limit r.file rs rest last

-- From an empty file on, whatever the runs do and wherever each is cut off: the file keeps what is sound for the books so far.
abbrev pub WholeHistories : Type 0
WholeHistories = (limit : ℕ) (runs : List Run) (H : List Book) (last : List ℕ) → AreRuns limit [] runs H last → HasDistinctDigests H → KeepsSound limit H last

-- What the parts of a run have done.
use Rattle.std.specs.Prelude.{ℕ, ◌≡◌, ◌⊎◌, ◌≤◌, Bool, true, false, List, ◌++◌, length, Some, None, Result, Ok, Err}
use Rattle.carte_io.specs.Causes.{Rose}
use Rattle.carte_io.specs.Streams.{Reads}
use Rattle.carte_io.specs.declared.whole.ReadEnd.{ReadEnd}
use Rattle.carte_io.specs.declared.whole.ReadEnd.TheVariants.{TooLong, Failed, NoMemory as ReadNoMemory}
use Rattle.carte_journal.specs.declared.faults.LoadFault.{LoadFault}
use Rattle.carte_journal.specs.declared.faults.LoadFault.TheVariants as load
use Rattle.carte_name.specs.declared.kind.Kind.{Kind}
use Rattle.carte_book.specs.Book.{Book, book_view}
use Rattle.carte_book.specs.declared.book.Book.{Book as CodeBook}
use Rattle.carte_book.specs.declared.fault.BookFault.{BookFault}
use Rattle.carte_book.specs.declared.fault.BookFault.TheVariants.{Limit, NoMemory as BookNoMemory}
use Rattle.carte_book.specs.declared.fault.Which.TheVariants.{Bytes}
use Rattle.carte_book.specs.declared.reason.Reason.{Reason}
use Rattle.carte_state.specs.Folding.{IsBadState}
use Rattle.carte_state.specs.States.{IsLoaded, Stand}
use Rattle.carte_session.specs.Session.{IsSession}
use Rattle.carte_session.specs.declared.end.SessionEnd.{SessionEnd}
use Rattle.carte_session.specs.declared.end.SessionEnd.TheVariants as session
use Rattle.carte_session.specs.declared.end.StepEnd.{StepEnd}
use Rattle.carte_shell.specs.Answers.{Answers as AnswersLine, Breaks, Ends as EndsAt, Obeys}
use Rattle.carte_shell.specs.Replies.{Said}
use Rattle.carte_shell.specs.Scenes.{Scene}
use Rattle.carte_shell.specs.declared.choices.Choices.{Choices}
use Rattle.carte_words.specs.declared.fault.WordsFault.{WordsFault}
use Rattle.carte_words.specs.declared.fault.WordsFault.TheVariants.{NoMemory as WordsNoMemory}
use Rattle.carte_words.specs.declared.line.Line.{Line}
use Rattle.carte_words.specs.declared.words.Command.TheVariants as command
use Rattle.carte_words.specs.declared.words.Words.{Words as Asked}
use Rattle.carte_report.specs.declared.status.Status.{Status}
use Rattle.carte_report.specs.declared.status.Status.TheVariants.{Done, BookRefused, Usage, BuildRefused, ReadFault, WriteFault, DiskFault, BadState, NoMemory}
use Rattle.carte_top.specs.Around.{OverSource, OverDisk, OverSink, IsUnread, IsUnvisited, IsUntouched, TakesAll, TakesFront}
use Rattle.carte_top.specs.Chosen.{BookOfKind}
use Rattle.carte_top.specs.Found.{Holds, Makes, Refuses, Found, AreClearing, HasBook, Carries, for_last}
use Rattle.carte_top.specs.Outcome.{Asks, Explained, IsBad, IsSpared, Built, Cleaned, Does, Generated, Ran, Sat, TellsEither, TellsSource, TellsSources, TellsDisk, TellsSink, status_of}
use Rattle.carte_top.specs.Sound.{AreFirst, StaysAt, StaysSound, MayBuild, KeepsOn, SessionStays}

-- ---- the book

-- what a reader answers: that, but that memory may run out
abbrev pub IsReadAs : Kind → List ℕ → Result CodeBook BookFault → Type 0
IsReadAs kind bytes (Ok b) = BookOfKind kind bytes (Ok (book_view b))
IsReadAs kind bytes (Err BookNoMemory) = Unit {0}
IsReadAs kind bytes (Err fault) = BookOfKind kind bytes (Err fault)

abbrev pub RefusesBytes : Kind → List ℕ → BookFault → Type 0
RefusesBytes kind bytes BookNoMemory = ⊥
RefusesBytes kind bytes fault = BookOfKind kind bytes (Err fault)

abbrev pub Parses : Kind → List ℕ → Result CodeBook Status → Type 0
Parses kind bytes (Ok b) = BookOfKind kind bytes (Ok (book_view b))
Parses kind bytes (Err (BookRefused fault)) = RefusesBytes kind bytes fault
Parses kind bytes (Err NoMemory) = Unit {0}
Parses kind bytes (Err status) = ⊥

abbrev pub Loads : Kind → OverSource → Result CodeBook Status → Type 0
Loads kind s (Ok b) = Holds kind s (λ c. c ≡ book_view b)
Loads kind s (Err (BookRefused fault)) = Refuses kind s fault
Loads kind s (Err ReadFault) = Unit {0}
Loads kind s (Err NoMemory) = Unit {0}
Loads kind s (Err status) = ⊥

abbrev pub TellsLoad : OverSource → Result CodeBook Status → Type 0
TellsLoad s (Ok b) = s.new.faults ≡ s.old.faults
TellsLoad s (Err status) = TellsSource s status

-- at most one byte more than a book may have
abbrev pub ReadsEnough : OverSource → Type 0
ReadsEnough s = Reads (λ bytes. length bytes ≤ 16777217) s.tells s.old.left s.new.left

pub record LoadsBook (kind : Kind) (s : OverSource) (result : Result CodeBook Status) : Type 0 where
  pub loads : Loads kind s result
  pub read : ReadsEnough s
  pub source : TellsLoad s result

-- ---- the state

abbrev pub LoadedOr : ℕ → OverDisk → Result Stand Status → Type 0
LoadedOr limit d (Ok e) = (d.tells → IsLoaded e d.old.now.reads) × (e.journal.limit ≡ limit) × (e.journal.broken ≡ false)
LoadedOr limit d (Err DiskFault) = Unit {0}
LoadedOr limit d (Err (BadState offset)) = d.tells → IsBadState limit d.old.now.reads offset
LoadedOr limit d (Err NoMemory) = Unit {0}
LoadedOr limit d (Err status) = ⊥

abbrev pub TellsOpen : OverDisk → Result Stand Status → Type 0
TellsOpen d (Ok e) = d.failed ≡ d.failed_before
TellsOpen d (Err status) = TellsDisk d status

pub record LoadsState (limit : ℕ) (d : OverDisk) (result : Result Stand Status) : Type 0 where
  pub loaded : LoadedOr limit d result
  pub story : d.tells → d.new ≡ d.old
  pub disk : TellsOpen d result

-- ---- one request

-- bytes that are given to a sink
abbrev pub Prints : List ℕ → OverSink → Status → Type 0
Prints bytes k Done = (k.tells → TakesAll k bytes) × (k.new.faults ≡ k.old.faults)
Prints bytes k WriteFault = (k.tells → TakesFront k bytes) × Rose k.old.faults k.new.faults
Prints bytes k status = ⊥

-- the shell that is opened: what the words choose, the book, and what was found to be kept, over a disk on which nothing was written yet
pub record Opens (limit : ℕ) (x : Choices) (b : Book) (d : OverDisk) (m : Scene) : Type 0 where
  pub choices : m.choices ≡ x
  pub book : m.book ≡ b
  pub limit_is : m.stand.journal.limit ≡ limit
  pub whole : m.stand.journal.broken ≡ false
  pub loaded : d.tells → IsLoaded m.stand d.old.now.reads
  pub story : d.tells → m.story ≡ d.old
  pub faults : m.faults ≡ d.failed_before

-- a reply was shown: the reason of a refusal is the status, and any other text is written behind what stands in front
abbrev pub Shows : List ℕ → Said → OverSink → Status → Type 0
Shows front r k status =
    ((reason : Reason) × (r.refused ≡ Some reason) × (status ≡ BuildRefused reason) × IsUntouched k)
    ⊎ ((r.refused ≡ None) × Prints (front ++ r.text) k status)

-- the request was carried out and its reply shown, or it came to an end before
abbrev pub Requests : Type 0 → Scene → Line → Scene → List ℕ → OverSink → Status → Type 0
Requests tells m l m' front k status =
    ((r : Said) × Obeys tells m l r m' × Shows front r k status)
    ⊎ ((end : StepEnd) × (status ≡ status_of (Err (session.Machine end))) × Breaks tells m l end m' × IsUntouched k)

-- over a disk and this book; or there is no state
abbrev pub RequestsOver : ℕ → Choices → Book → Line → List ℕ → OverDisk → OverSink → Status → Type 0
RequestsOver limit x b l front d k status =
    (LoadsState limit d (Err status) × IsUntouched k)
    ⊎ ((m m' : Scene) × Opens limit x b d m × (m'.story ≡ d.new) × (m'.faults ≡ d.failed) × Requests d.tells m l m' front k status)

-- ---- a session

-- lines were carried out over a shell and a disk
pub record Serves (m m' : Scene) (tells : Type 0) (c : OverSource) (k : OverSink) (status : Status) : Type 0 where
  pub end : Result (Unit {0}) SessionEnd
  pub status_is : status ≡ status_of end
  pub goes : IsSession (AnswersLine tells) (EndsAt tells) m m' c k 67108864 end

-- no line was looked at, since there is no state to look at
abbrev pub LacksState : ℕ → OverDisk → Status → Type 0
LacksState limit d DiskFault = Unit {0}
LacksState limit d (BadState offset) = IsBad limit d offset
LacksState limit d NoMemory = Unit {0}
LacksState limit d status = ⊥

-- over a disk, with the book that was read
abbrev pub SatOver : ℕ → Asked → Book → OverSource → OverDisk → OverSink → Status → Type 0
SatOver limit w b c d k status = (LacksState limit d status × IsSpared d × IsUntouched k × IsUnread c)
    ⊎ ((end : Result (Unit {0}) SessionEnd) × (status ≡ status_of end) × Found limit d (Carries limit w c d k end b))

-- what a crash leaves of its disk
abbrev pub SessionStaysOver : ℕ → Book → OverSource → OverDisk → Type 0
SessionStaysOver limit b c d = (J : List Book) × AreFirst c b J × StaysSound limit J d

pub record SitsOver (limit : ℕ) (w : Asked) (b : Book) (c : OverSource) (d : OverDisk) (k : OverSink) (status : Status) : Type 0 where
  pub did : SatOver limit w b c d k status
  pub stays : SessionStaysOver limit b c d
  pub source : TellsSource c status
  pub disk : TellsDisk d status
  pub sink : TellsSink k status

-- ---- a run over a book and a state

pub record RunOf (Did Visited Told : Type 0) (s : OverSource) (d : OverDisk) (k : OverSink) (status : Status) : Type 0 where
  pub did : Did
  pub read : ReadsEnough s
  pub visits : IsUnvisited d ⊎ Visited
  pub source : Told
  pub disk : TellsDisk d status
  pub sink : TellsSink k status

-- and one that reads no book
pub record RunAlone (Did Visited : Type 0) (d : OverDisk) (k : OverSink) (status : Status) : Type 0 where
  pub did : Did
  pub visits : IsUnvisited d ⊎ Visited
  pub disk : TellsDisk d status
  pub sink : TellsSink k status

abbrev pub Cleans : ℕ → OverDisk → OverSink → Status → Type 0
Cleans limit d k status = RunAlone (Cleaned limit d k status) (StaysAt limit AreClearing d) d k status

abbrev pub Generates : ℕ → Asked → OverDisk → OverSink → Status → Type 0
Generates limit w d k status = RunAlone (Generated limit w d k status) (Makes w (λ b. StaysAt limit (MayBuild (for_last w) b) d)) d k status

abbrev pub Builds : ℕ → Asked → OverSource → OverDisk → OverSink → Status → Type 0
Builds limit w s d k status = RunOf (Built limit w s d k status) (Holds w.kind s (λ b. StaysAt limit (MayBuild w b) d)) (TellsSource s status) s d k status

abbrev pub Tells : ℕ → Asked → OverSource → OverDisk → OverSink → Status → Type 0
Tells limit w s d k status = RunOf (Explained limit w s d k status × IsSpared d) (HasBook w.kind s × IsSpared d) (TellsSource s status) s d k status

abbrev pub Sits : ℕ → Asked → OverSource → OverSource → OverDisk → OverSink → Status → Type 0
Sits limit w s c d k status = RunOf (Sat limit w s c d k status) (SessionStays limit w s c d) (TellsEither s c status (Unit {0})) s d k status

abbrev pub Runs : ℕ → Asked → OverSource → OverSource → OverDisk → OverSink → Status → Type 0
Runs limit w s c d k status = RunOf (Does w.command limit w s c d k status) (KeepsOn w.command limit w s c d) (TellsEither s c status (w.command ≡ command.Session)) s d k status

abbrev pub IsRun : ℕ → List (List ℕ) → OverSource → OverSource → OverDisk → OverSink → Status → Type 0
IsRun limit words s c d k status = RunOf (Ran limit words s c d k status) (Asks words (λ w. KeepsOn w.command limit w s c d)) (TellsSources words s c status) s d k status

-- ---- what is written

-- a status with an error line
abbrev pub is_spoken : Status → Bool
is_spoken Done = false
is_spoken WriteFault = false
is_spoken status = true

-- one whose line needs no memory
abbrev pub is_brief : Status → Bool
is_brief ReadFault = true
is_brief DiskFault = true
is_brief NoMemory = true
is_brief status = false

-- the status stays, but that memory may run out for its line
abbrev pub Reports : Status → Status → Type 0
Reports old new = (new ≡ old) ⊎ ((is_spoken old ≡ true) × (is_brief old ≡ false) × (new ≡ NoMemory))

-- ---- statuses of faults

abbrev pub usage_of : WordsFault → Status
usage_of WordsNoMemory = NoMemory
usage_of fault = Usage fault

abbrev pub unread_of : ReadEnd → Status
unread_of TooLong = BookRefused (Limit Bytes 16777216)
unread_of Failed = ReadFault
unread_of ReadNoMemory = NoMemory

abbrev pub unparsed_of : BookFault → Status
unparsed_of BookNoMemory = NoMemory
unparsed_of fault = BookRefused fault

abbrev pub unloaded_of : LoadFault → Status
unloaded_of load.DiskFault = DiskFault
unloaded_of (load.BadState offset) = BadState offset
unloaded_of load.NoMemory = NoMemory

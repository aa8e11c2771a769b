-- What a run has done, status by status.
use Rattle.std.specs.Prelude.{ℕ, ◌≡◌, ◌⊎◌, List, [], Result, Ok, Err}
use Rattle.carte_io.specs.Causes.{Rose}
use Rattle.carte_book.specs.Book.{Book}
use Rattle.carte_book.specs.Reason.{IsReason}
use Rattle.carte_book.specs.declared.reason.Reason.{Reason}
use Rattle.carte_session.specs.declared.end.SessionEnd.{SessionEnd}
use Rattle.carte_session.specs.declared.end.SessionEnd.TheVariants as session
use Rattle.carte_session.specs.declared.end.StepEnd.TheVariants as line
use Rattle.carte_state.specs.Folding.{IsBadState}
use Rattle.carte_state.specs.declared.fault.ApplyFault.TheVariants as applying
use Rattle.carte_words.specs.Words.{words_of}
use Rattle.carte_words.specs.declared.words.Command.{Command}
use Rattle.carte_words.specs.declared.words.Command.TheVariants as command
use Rattle.carte_words.specs.declared.words.Words.{Words as Asked}
use Rattle.carte_report.specs.declared.status.Status.{Status}
use Rattle.carte_report.specs.declared.status.Status.TheVariants.{Done, BookRefused, Usage, BuildRefused, ReadFault, WriteFault, DiskFault, BadState, StateFull, NoMemory, ScriptTooLong}
use Rattle.carte_report.specs.Texts.{error_line}
use Rattle.carte_top.specs.Around.{OverSource, OverDisk, OverSink, IsUnread, IsUnvisited, IsUntouched, TakesAll, TakesFront, Says}
use Rattle.carte_top.specs.Found.{Holds, HasBook, Makes, Refuses, Found, RefusesFor, Replies, Overfills, Halts, Clears, ClearsNot, ClearsTooMuch, Explains, Carries, behind, for_last, front_of}
use Rattle.carte_engine.specs.Versions.{Under}

-- the words ask for something that is so
abbrev pub Asks : List (List ℕ) → (Asked → Type 0) → Type 0
Asks words P = (w : Asked) × (words_of words ≡ Ok w) × P w

-- the state isn't one, and nothing was written
abbrev pub IsBad : ℕ → OverDisk → ℕ → Type 0
IsBad limit d offset = d.tells → IsBadState limit d.old.now.reads offset × (d.new ≡ d.old)

-- nothing was committed
abbrev pub IsSpared : OverDisk → Type 0
IsSpared d = d.tells → d.new ≡ d.old

-- what a build has done over a book that is had so, whose reply stands behind what is in front
abbrev pub BuiltOver : ((Book → Type 0) → Type 0) → ℕ → Asked → List ℕ → OverDisk → OverSink → Status → Type 0
BuiltOver Has limit w front d k Done = Has (λ b. Found limit d (Replies limit w d k (behind front TakesAll) b))
BuiltOver Has limit w front d k (BuildRefused reason) = Has (λ b. Found limit d (RefusesFor limit w d reason b)) × IsUntouched k
BuiltOver Has limit w front d k WriteFault = Has (λ b. Found limit d (Replies limit w d k (behind front TakesFront) b))
BuiltOver Has limit w front d k DiskFault = ((Has (λ b. Unit {0}) × IsSpared d) ⊎ Has (λ b. Found limit d (Halts limit w d applying.DiskFault b))) × IsUntouched k
BuiltOver Has limit w front d k (BadState offset) = Has (λ b. Unit {0}) × IsBad limit d offset × IsUntouched k
BuiltOver Has limit w front d k (StateFull needed most) = Has (λ b. Found limit d (Overfills limit w d needed most b)) × IsUntouched k
BuiltOver Has limit w front d k NoMemory = IsUntouched k × (IsSpared d ⊎ Has (λ b. Found limit d (Halts limit w d applying.NoMemory b)))
BuiltOver Has limit w front d k _ = ⊥

-- what a build has done: over the book that was read, or there is none
abbrev pub Built : ℕ → Asked → OverSource → OverDisk → OverSink → Status → Type 0
Built limit w s d k (BookRefused fault) = Refuses w.kind s fault × IsUnvisited d × IsUntouched k
Built limit w s d k ReadFault = IsUnvisited d × IsUntouched k
Built limit w s d k status = BuiltOver (Holds w.kind s) limit w [] d k status

-- what a build of a generated book has done
abbrev pub Generated : ℕ → Asked → OverDisk → OverSink → Status → Type 0
Generated limit w d k status = BuiltOver (Makes w) limit (for_last w) (front_of w) d k status

-- what a clearing of the state has done
abbrev pub Cleaned : ℕ → OverDisk → OverSink → Status → Type 0
Cleaned limit d k Done = Found limit d (Clears limit d k TakesAll)
Cleaned limit d k WriteFault = Found limit d (Clears limit d k TakesFront)
Cleaned limit d k DiskFault = (IsSpared d ⊎ Found limit d (ClearsNot limit d applying.DiskFault)) × IsUntouched k
Cleaned limit d k (BadState offset) = IsBad limit d offset × IsUntouched k
Cleaned limit d k (StateFull needed most) = Found limit d (ClearsTooMuch limit d needed most) × IsUntouched k
Cleaned limit d k NoMemory = IsUntouched k × (IsSpared d ⊎ Found limit d (ClearsNot limit d applying.NoMemory))
Cleaned limit d k _ = ⊥

-- there is no book, or no state, to look at
abbrev pub Lacks : ℕ → Asked → OverSource → OverDisk → Status → Type 0
Lacks limit w s d (BookRefused fault) = Refuses w.kind s fault × IsUnvisited d
Lacks limit w s d ReadFault = IsUnvisited d
Lacks limit w s d DiskFault = HasBook w.kind s
Lacks limit w s d (BadState offset) = HasBook w.kind s × IsBad limit d offset
Lacks limit w s d NoMemory = Unit {0}
Lacks limit w s d _ = ⊥

-- what an explanation has done
abbrev pub Explained : ℕ → Asked → OverSource → OverDisk → OverSink → Status → Type 0
Explained limit w s d k Done = Holds w.kind s (λ b. Found limit d (Explains w k TakesAll b))
Explained limit w s d k (BuildRefused reason) = Holds w.kind s (λ b. Found limit d (λ K. Under K b (IsReason b w.targets reason))) × IsUntouched k
Explained limit w s d k WriteFault = Holds w.kind s (λ b. Found limit d (Explains w k TakesFront b))
Explained limit w s d k status = Lacks limit w s d status × IsUntouched k

-- the status of a session's end
abbrev pub status_of : Result (Unit {0}) SessionEnd → Status
status_of (Ok done) = Done
status_of (Err session.ReadFault) = ReadFault
status_of (Err session.WriteFault) = WriteFault
status_of (Err session.TooLong) = ScriptTooLong
status_of (Err session.NoMemory) = NoMemory
status_of (Err (session.Machine line.DiskFault)) = DiskFault
status_of (Err (session.Machine (line.StateFull needed most))) = StateFull needed most
status_of (Err (session.Machine line.NoMemory)) = NoMemory

-- a session came to this end, over the book that was read and what was found to be kept
abbrev pub ComesTo : ℕ → Asked → OverSource → OverSource → OverDisk → OverSink → Result (Unit {0}) SessionEnd → Type 0
ComesTo limit w s c d k end = Holds w.kind s (λ b. Found limit d (Carries limit w c d k end b))

-- what a session has done: no line was looked at, or it came to its end
abbrev pub Sat : ℕ → Asked → OverSource → OverSource → OverDisk → OverSink → Status → Type 0
Sat limit w s c d k status = (Lacks limit w s d status × IsSpared d × IsUntouched k × IsUnread c)
    ⊎ ((end : Result (Unit {0}) SessionEnd) × (status ≡ status_of end) × ComesTo limit w s c d k end)

-- an explanation writes nothing, so it leaves the state as it was
abbrev pub Does : Command → ℕ → Asked → OverSource → OverSource → OverDisk → OverSink → Status → Type 0
Does command.Build limit w s c d k status = Built limit w s d k status
Does command.Session limit w s c d k status = Sat limit w s c d k status
Does command.Explain limit w s c d k status = Explained limit w s d k status × IsSpared d
Does command.Clean limit w s c d k status = IsUnread s × Cleaned limit d k status
Does command.Generate limit w s c d k status = IsUnread s × Generated limit w d k status

-- a build was refused, and what it had finished was committed
abbrev pub CommitsRefused : ℕ → Asked → OverDisk → Book → Type 0
CommitsRefused limit w d b = Found limit d (λ K. (reason : Reason) × RefusesFor limit w d reason b K)

abbrev pub KeepsRefused : ℕ → OverSource → OverDisk → Asked → Type 0
KeepsRefused limit s d w = ((w.command ≡ command.Build) × Holds w.kind s (CommitsRefused limit w d)) ⊎ ((w.command ≡ command.Generate) × Makes w (CommitsRefused limit (for_last w) d))

-- there was no memory for a batch of a build; or one was too much, and there was none for the line that tells so
abbrev pub HaltsShort : ℕ → Asked → OverDisk → Book → Type 0
HaltsShort limit w d b = Found limit d (Halts limit w d applying.NoMemory b) ⊎ ((needed most : ℕ) × Found limit d (Overfills limit w d needed most b))

-- so it was with that of a clearing
abbrev pub ClearsShort : ℕ → OverDisk → Type 0
ClearsShort limit d = Found limit d (ClearsNot limit d applying.NoMemory) ⊎ ((needed most : ℕ) × Found limit d (ClearsTooMuch limit d needed most))

abbrev pub StopsShort : Command → ℕ → OverSource → OverDisk → Asked → Type 0
StopsShort command.Build limit s d w = Holds w.kind s (HaltsShort limit w d)
StopsShort command.Generate limit s d w = Makes w (HaltsShort limit (for_last w) d)
StopsShort command.Clean limit s d w = ClearsShort limit d
StopsShort _ limit s d w = ⊥

-- a session came to an end behind which memory is wanted for the error line
abbrev pub IsShort : SessionEnd → Type 0
IsShort session.TooLong = Unit {0}
IsShort session.NoMemory = Unit {0}
IsShort (session.Machine (line.StateFull needed most)) = Unit {0}
IsShort (session.Machine line.NoMemory) = Unit {0}
IsShort _ = ⊥

abbrev pub EndsShort : ℕ → OverSource → OverSource → OverDisk → OverSink → Asked → Type 0
EndsShort limit s c d k w = (w.command ≡ command.Session) × ((end : SessionEnd) × IsShort end × ComesTo limit w s c d k (Err end))

-- First the words are read: what holds but for the error line. Behind the commits of a request memory is wanted for that line alone; it may run out between them, and between the lines of a session.
abbrev pub Ran : ℕ → List (List ℕ) → OverSource → OverSource → OverDisk → OverSink → Status → Type 0
Ran limit words s c d k (Usage fault) = (words_of words ≡ Err fault) × IsUnread s × IsUnvisited d × IsUntouched k
Ran limit words s c d k NoMemory = (IsUntouched k × (IsSpared d ⊎ Asks words (λ w. StopsShort w.command limit s d w) ⊎ Asks words (KeepsRefused limit s d))) ⊎ Asks words (EndsShort limit s c d k)
Ran limit words s c d k status = Asks words (λ w. Does w.command limit w s c d k status)

-- and the error line
abbrev pub Ended : OverSink → Status → Type 0
Ended k Done = IsUntouched k
Ended k WriteFault = IsUntouched k
Ended k status = Says k (error_line status)

-- ---- a device's fault is told, and by its own status: only with that has its count of faults risen

abbrev pub TellsSource : OverSource → Status → Type 0
TellsSource s ReadFault = Rose s.old.faults s.new.faults
TellsSource s _ = s.new.faults ≡ s.old.faults

-- Of the book's source, and the script wasn't read; or of the script's, by a session whose book was read.
abbrev pub TellsEither : OverSource → OverSource → Status → Type 0 → Type 0
TellsEither s c status IsOfSession = (TellsSource s status × IsUnread c) ⊎ (IsOfSession × (s.new.faults ≡ s.old.faults) × TellsSource c status)

abbrev pub TellsSources : List (List ℕ) → OverSource → OverSource → Status → Type 0
TellsSources words s c status = TellsEither s c status (Asks words (λ w. w.command ≡ command.Session))

abbrev pub TellsDisk : OverDisk → Status → Type 0
TellsDisk d DiskFault = Rose d.failed_before d.failed
TellsDisk d _ = d.failed ≡ d.failed_before

abbrev pub TellsSink : OverSink → Status → Type 0
TellsSink k WriteFault = Rose k.old.faults k.new.faults
TellsSink k _ = k.new.faults ≡ k.old.faults

-- What a run has found, and what a build has made of it.
use Rattle.std.specs.Prelude.{ℕ, ◌≡◌, ◌⊎◌, ◌+◌, ◌<◌, Bool, true, false, List, [], ◌∷◌, ◌++◌, codes, length, map, Result, Ok, Err, if◌then◌else◌}
use Rattle.std.proofs.Common.{inl, inr}
use Rattle.carte_io.specs.Disk.{IsSettled, Moment, Story}
use Rattle.carte_io.specs.Stations.{StepsThrough, calls_in}
use Rattle.carte_journal.specs.Frames.{BodyAt, Ends, end_of, reading}
use Rattle.carte_name.specs.declared.kind.Kind.{Kind}
use Rattle.carte_book.specs.Book.{Book}
use Rattle.carte_book.specs.Reason.{AllClean}
use Rattle.carte_book.specs.declared.reason.Reason.{Reason}
use Rattle.carte_book.specs.declared.fault.BookFault.{BookFault}
use Rattle.carte_book.specs.declared.fault.BookFault.TheVariants.{NoMemory as BookNoMemory}
use Rattle.carte_record.specs.declared.batch.Batch.{Batch}
use Rattle.carte_record.specs.declared.start.Start.TheVariants.{Cleared}
use Rattle.carte_record.specs.Bodies.{spelled_batch}
use Rattle.carte_record.specs.Empty.{is_empty}
use Rattle.carte_record.specs.Kept.{nothing_kept}
use Rattle.carte_sound.specs.LeadsTo.{empty_batch}
use Rattle.carte_session.specs.Session.{IsSession}
use Rattle.carte_session.specs.declared.end.SessionEnd.{SessionEnd}
use Rattle.carte_state.specs.Folding.{Keeps}
use Rattle.carte_state.specs.States.{IsLoaded, Stand, any_in}
use Rattle.carte_state.specs.declared.fault.ApplyFault.{ApplyFault}
use Rattle.carte_state.specs.declared.fault.ApplyFault.TheVariants.{Full}
use Rattle.carte_words.specs.declared.words.Words.{Words as Asked}
use Rattle.carte_generate.specs.Generated.{IsGenerated, inputs_of, target_of}
use Rattle.carte_engine.specs.declared.answer.Answer.{Answer}
use Rattle.carte_engine.specs.declared.answer.Answer.TheVariants as answer
use Rattle.carte_engine.specs.declared.answer.Built.{Built}
use Rattle.carte_engine.specs.Answers.{IsPlan, OnRefusal}
use Rattle.carte_engine.specs.Committing.{FitAll, HasPassed, Overfill, PutsAll, StopsAt, behind as onwards, steps_put, steps_stopped, until}
use Rattle.carte_engine.specs.Schedulers.{KeepsBy}
use Rattle.carte_explain.specs.declared.why.Why.{Why}
use Rattle.carte_report.specs.Lines.{why_lines}
use Rattle.carte_report.specs.Reply.{keys_line, reply}
use Rattle.carte_shell.specs.Answers.{Answers as AnswersLine, Ends as EndsAt}
use Rattle.carte_shell.specs.Explained.{AreWhys}
use Rattle.carte_shell.specs.Scenes.{Scene}
use Rattle.carte_top.specs.Around.{OverSource, OverDisk, OverSink}
use Rattle.carte_top.specs.Chosen.{scheduler_of, how_of, choices_of, BookOfKind}
use Rattle.carte_engine.specs.Versions.{Under, kept_for}
use Rattle.carte_state.specs.Versions.{AnyKept, InTwo, apply_to, two_of}
use Rattle.carte_state.specs.Runs.{applied_to}

-- ---- the book

-- the bytes that were read; where the source tells, they are all of it
abbrev pub WasRead : OverSource → List ℕ → Type 0
WasRead s bytes = s.tells → (s.old.left ≡ bytes) × (s.new.left ≡ [])

-- or its first ones, one more than a book may have
abbrev pub WasReadInPart : OverSource → List ℕ → Type 0
WasReadInPart s bytes = (length bytes ≡ 16777217) × (s.tells → s.old.left ≡ bytes ++ s.new.left)

-- what was read of the book is such a book
abbrev pub Holds : Kind → OverSource → (Book → Type 0) → Type 0
Holds kind s P = (bytes : List ℕ) × WasRead s bytes × (b : Book) × BookOfKind kind bytes (Ok b) × P b

abbrev pub HasBook : Kind → OverSource → Type 0
HasBook kind s = Holds kind s (λ b. Unit {0})

-- it is no book, and this is why
abbrev pub Refuses : Kind → OverSource → BookFault → Type 0
Refuses kind s BookNoMemory = ⊥
Refuses kind s fault = (bytes : List ℕ) × (WasRead s bytes ⊎ WasReadInPart s bytes) × BookOfKind kind bytes (Err fault)

-- it is the generated book of the words' seed and count, of which nothing is read
abbrev pub Makes : Asked → (Book → Type 0) → Type 0
Makes w P = (b : Book) × IsGenerated w.seed w.count b × P b

-- ---- the state

-- this is what was found to be kept; where the disk tells, the file keeps it
abbrev pub Found : ℕ → OverDisk → (AnyKept → Type 0) → Type 0
Found limit d P = (K : AnyKept) × (d.tells → Keeps limit K d.old.now.reads) × P K

-- all of the disk is synced, and the file keeps this
pub record EndsWith (limit : ℕ) (K : AnyKept) (m : Moment) : Type 0 where
  pub settled : IsSettled m
  pub keeps : Keeps limit K m.reads

-- of these batches there is one with which the file would need so many bytes, which are more than the limit; there is room for those in front of it
abbrev pub IsNeeded : ℕ → List ℕ → List Batch → ℕ → Type 0
IsNeeded limit file Bs needed = (s : Stand) → IsLoaded s file → s.journal.limit ≡ limit → Overfill needed true s Bs

-- there is room for each of the batches, in the file as it stands when it is put; an empty one takes none
abbrev pub FitsIn : ℕ → List ℕ → List Batch → Type 0
FitsIn limit file Bs = (s : Stand) → IsLoaded s file → s.journal.limit ≡ limit → FitAll true s Bs

-- the frames of a file have grown by just that of the batch, and by none for an empty one
abbrev pub GrowsBy : ℕ → Batch → List ℕ → List ℕ → Type 0
GrowsBy limit B file after = (gate : ℕ) (bodies : List BodyAt) → reading limit file ≡ Ends gate bodies
    → (all : List BodyAt) × (reading limit after ≡ Ends (if is_empty B then gate else end_of gate (spelled_batch B)) all)

-- ---- the commit

-- the state that was found, and the disk's story behind its reading: where the disk tells what it reads, this is loaded from it, and nothing was written yet
pub record IsFoundAs (limit : ℕ) (d : OverDisk) (K : AnyKept) : Type 0 where
  pub stand : Stand
  pub story : Story
  pub unwritten : d.tells → story ≡ d.old
  pub loaded : d.tells → IsLoaded stand d.old.now.reads
  pub limit_is : stand.journal.limit ≡ limit
  pub keeps : any_in stand ≡ K

-- of each batch that was put, the frames have grown by just its own, from the file on as it stood then
abbrev pub GrowsAlong : (limit : ℕ) (first : Bool) (d : OverDisk) (old : Stand) (Bs : List Batch) (new : Stand) → PutsAll first d old Bs new → Type 0
GrowsAlong limit first d old [] new none = Unit {0}
GrowsAlong limit first d old (B ∷ Bs) new (mid, between, inl f, puts) = GrowsBy limit B f.between.now.reads between.now.reads × GrowsAlong limit false (onwards d between) mid Bs new puts
GrowsAlong limit first d old (B ∷ Bs) new (mid, between, inr unready, puts) = ⊥

-- The batches were put into what was kept, one after another, each once and nothing besides. Under a crash at any later moment the file keeps them all. Each makes no
-- writing call where it is empty, else 4, and 6 where the file is new; a rewriting before it makes 4, 5 or 7. At each moment an image is at the station behind those
-- batches of which all calls have passed, or at a later one.
pub record ArePut (limit : ℕ) (d : OverDisk) (K : AnyKept) (Bs : List Batch) : Type 0 where
  pub found : IsFoundAs limit d K
  pub last : Stand
  pub puts : PutsAll true (onwards d found.story) found.stand Bs last
  pub ends : d.tells → IsSettled d.old.now → EndsWith limit (applied_to K Bs) d.new.now
  pub grows : d.tells → IsSettled d.old.now → GrowsAlong limit true (onwards d found.story) found.stand Bs last puts
  pub calls : d.tells → d.new.now.passed ≡ d.old.now.passed + calls_in (steps_put true (onwards d found.story) found.stand Bs last puts)
  pub stands : d.tells → IsSettled d.old.now → StepsThrough (Keeps limit) (any_in found.stand) (steps_put true (onwards d found.story) found.stand Bs last puts) d.old d.new

-- Those in front were put so, and the next one was not, for this reason: with it the file would need so many bytes, which are more than the limit; or the disk failed
-- while it was put, or while the file was rewritten before it; or there was no memory for it.
pub record IsStopped (limit : ℕ) (d : OverDisk) (K : AnyKept) (Bs : List Batch) (fault : ApplyFault) : Type 0 where
  pub found : IsFoundAs limit d K
  pub last : Stand
  pub stops : StopsAt (onwards d found.story) found.stand Bs last fault
  pub ends : d.tells → IsSettled d.old.now → EndsWith limit (applied_to K stops.front) stops.between.now
  pub grows : d.tells → IsSettled d.old.now → GrowsAlong limit true (until (onwards d found.story) stops.between) found.stand stops.front stops.mid stops.puts
  pub calls : d.tells → HasPassed d stops.between (steps_stopped (onwards d found.story) found.stand Bs last fault stops) fault
  pub stands : d.tells → IsSettled d.old.now → StepsThrough (Keeps limit) (any_in found.stand) (steps_stopped (onwards d found.story) found.stand Bs last fault stops) d.old d.new

-- ---- the build

-- a build of the words' targets answers so, rightly, and may commit the batches
abbrev pub Answers : Asked → Book → AnyKept → Answer → List Batch → Type 0
Answers w b K a Bs = Under K b (IsPlan (scheduler_of w.scheduler) (how_of w.rebuilder) K b w.targets Bs a)

-- it answered so, and committed its batches
pub record Commits (limit : ℕ) (w : Asked) (d : OverDisk) (b : Book) (K : AnyKept) (a : Answer) : Type 0 where
  pub batches : List Batch
  pub answers : Answers w b K a batches
  pub put : ArePut limit d K batches

-- it was refused for this, with the ledger of what it did all the same, and committed what it had finished
abbrev pub RefusesFor : ℕ → Asked → OverDisk → Reason → Book → AnyKept → Type 0
RefusesFor limit w d reason b K = OnRefusal reason (Commits limit w d b K)

-- the text of its reply
abbrev pub reply_to : Asked → Built → List ℕ
reply_to w built = reply w.targets built.values w.list built.ran built.given_up built.reused

-- it succeeded, keeps each clean value, and its reply went to the sink
pub record Replies (limit : ℕ) (w : Asked) (d : OverDisk) (k : OverSink) (Takes : OverSink → List ℕ → Type 0) (b : Book) (K : AnyKept) : Type 0 where
  pub built : Built
  pub commits : Commits limit w d b K (answer.Built built)
  pub keeps : Under K b (KeepsBy (scheduler_of w.scheduler) (how_of w.rebuilder) (kept_for K b) (two_of (applied_to K commits.batches)) b w.targets)
  pub takes : k.tells → Takes k (reply_to w built)

-- a generated book is built for its last key, and its reply stands behind a line that tells of its keys
abbrev pub for_last : Asked → Asked
for_last w = record w { targets = target_of w.count ∷ [] }

abbrev pub front_of : Asked → List ℕ
front_of w = keys_line w.count (inputs_of w.count)

abbrev pub behind : List ℕ → (OverSink → List ℕ → Type 0) → OverSink → List ℕ → Type 0
behind front Takes k text = Takes k (front ++ text)

-- one of the batches that a build may commit was not put, for this reason, and those in front of it were
pub record Halts (limit : ℕ) (w : Asked) (d : OverDisk) (fault : ApplyFault) (b : Book) (K : AnyKept) : Type 0 where
  pub answer : Answer
  pub batches : List Batch
  pub answers : Answers w b K answer batches
  pub stopped : IsStopped limit d K batches fault

-- since the file would need so many bytes, which are more than the limit
pub record Overfills (limit : ℕ) (w : Asked) (d : OverDisk) (needed most : ℕ) (b : Book) (K : AnyKept) : Type 0 where
  pub halts : Halts limit w d (Full needed most) b K
  pub most_is : most ≡ limit
  pub over : limit < needed

-- ---- the clearing

-- its batch leaves nothing: an empty one where nothing is kept, and else one that clears and brings nothing
pub record IsClearing (K : AnyKept) (B : Batch) : Type 0 where
  pub leaves : apply_to B K ≡ InTwo nothing_kept
  pub least : ((K ≡ InTwo nothing_kept) × (B ≡ empty_batch)) ⊎ (¬ (K ≡ InTwo nothing_kept) × (B ≡ record empty_batch { start = Cleared }))

-- the batch of a clearing, alone
abbrev pub AreClearing : AnyKept → List Batch → Type 0
AreClearing K Bs = (B : Batch) × IsClearing K B × (Bs ≡ B ∷ [])

-- nothing is kept any more, and that was said
pub record Clears (limit : ℕ) (d : OverDisk) (k : OverSink) (Takes : OverSink → List ℕ → Type 0) (K : AnyKept) : Type 0 where
  pub batch : Batch
  pub clearing : IsClearing K batch
  pub put : ArePut limit d K (batch ∷ [])
  pub takes : k.tells → Takes k (codes "cleaned" ++ 10 ∷ [])

-- its batch was not put, for this reason
pub record ClearsNot (limit : ℕ) (d : OverDisk) (fault : ApplyFault) (K : AnyKept) : Type 0 where
  pub batch : Batch
  pub clearing : IsClearing K batch
  pub stopped : IsStopped limit d K (batch ∷ []) fault

-- so it is where something is kept, and the batch is too much
pub record ClearsTooMuch (limit : ℕ) (d : OverDisk) (needed most : ℕ) (K : AnyKept) : Type 0 where
  pub clears_not : ClearsNot limit d (Full needed most) K
  pub most_is : most ≡ limit
  pub over : limit < needed

-- ---- the explanation

-- each target has a clean value, and its line with the cause why a build would run it, or would not; the lines went to the sink
pub record Explains (w : Asked) (k : OverSink) (Takes : OverSink → List ℕ → Type 0) (b : Book) (K : AnyKept) : Type 0 where
  pub told : List (List ℕ × Why)
  pub of_targets : map (λ t. t.0) told ≡ w.targets
  pub whys : Under K b (AllClean b w.targets × AreWhys (how_of w.rebuilder) (kept_for K b) b told)
  pub takes : k.tells → Takes k (why_lines told)

-- ---- the session

-- what the first line finds: what the words choose, the book that was read, what was found to be kept, and the disk, on which nothing was written yet
pub record Begins (limit : ℕ) (w : Asked) (d : OverDisk) (b : Book) (K : AnyKept) (m : Scene) : Type 0 where
  pub choices : m.choices ≡ choices_of w
  pub book : m.book ≡ b
  pub keeps : any_in m.stand ≡ K
  pub limit_is : m.stand.journal.limit ≡ limit
  pub loaded : d.tells → IsLoaded m.stand d.old.now.reads
  pub story : d.tells → m.story ≡ d.old
  pub faults : m.faults ≡ d.failed_before

-- lines of the script were carried out, from the first one on, and their replies went to the sink; the end says which, and why no more were
pub record Carries (limit : ℕ) (w : Asked) (c : OverSource) (d : OverDisk) (k : OverSink) (end : Result (Unit {0}) SessionEnd) (b : Book) (K : AnyKept) : Type 0 where
  pub first : Scene
  pub last : Scene
  pub begins : Begins limit w d b K first
  pub story : last.story ≡ d.new
  pub faults : last.faults ≡ d.failed
  pub goes : IsSession (AnswersLine d.tells) (EndsAt d.tells) first last c k 67108864 end

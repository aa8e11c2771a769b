-- Where a book is lacking, for an explanation or a session, or a state for a session; and a session over a book that was read.
use Rattle.std.proofs.Common.{◌≡◌, ℕ, Err, inl, inr}
use Rattle.carte_book.specs.Book.{Book}
use Rattle.carte_words.specs.declared.words.Words.{Words as Asked}
use Rattle.carte_report.specs.declared.status.Status.{Status}
use Rattle.carte_report.specs.declared.status.Status.TheVariants.{Done, BookRefused, Usage, BuildRefused, ReadFault, WriteFault, DiskFault, BadState, StateFull, NoMemory, ScriptTooLong}
use Rattle.carte_top.specs.Around.{OverSource, OverDisk, OverSink, IsUnread, IsUnvisited, IsUntouched}
use Rattle.carte_top.specs.Found.{Carries, Found, HasBook, Holds}
use Rattle.carte_top.specs.Outcome.{Explained, Lacks, Sat, TellsDisk, TellsSink, TellsSource}
use Rattle.carte_top.specs.Running.{LacksState, LoadedOr, LoadsBook, ReadsEnough, SatOver, SessionStaysOver, Sits, SitsOver, Tells}
use Rattle.carte_top.proofs.Books.{holds_so}

-- ---- no book

module _ (w : Asked) (s : OverSource) (d : OverDisk) (k : OverSink) where
  lacks_book : (limit : ℕ) (status : Status) → LoadsBook w.kind s (Err status) → IsUnvisited d → Lacks limit w s d status
  lacks_book limit (BookRefused fault) load unvisited = (load.loads, unvisited)
  lacks_book limit ReadFault load unvisited = unvisited
  lacks_book limit NoMemory load unvisited = tt
  lacks_book limit Done load unvisited = absurd load.loads
  lacks_book limit (Usage fault) load unvisited = absurd load.loads
  lacks_book limit (BuildRefused reason) load unvisited = absurd load.loads
  lacks_book limit WriteFault load unvisited = absurd load.loads
  lacks_book limit DiskFault load unvisited = absurd load.loads
  lacks_book limit (BadState offset) load unvisited = absurd load.loads
  lacks_book limit (StateFull needed most) load unvisited = absurd load.loads
  lacks_book limit ScriptTooLong load unvisited = absurd load.loads

  -- neither the disk nor the sink has failed then
  quiet : (status : Status) → LoadsBook w.kind s (Err status) → d.failed ≡ d.failed_before → k.new.faults ≡ k.old.faults → TellsDisk d status × TellsSink k status
  quiet (BookRefused fault) load disk sink = (disk, sink)
  quiet ReadFault load disk sink = (disk, sink)
  quiet NoMemory load disk sink = (disk, sink)
  quiet Done load disk sink = (disk, sink)
  quiet (Usage fault) load disk sink = (disk, sink)
  quiet (BuildRefused reason) load disk sink = (disk, sink)
  quiet WriteFault load disk sink = absurd load.loads
  quiet DiskFault load disk sink = absurd load.loads
  quiet (BadState offset) load disk sink = (disk, sink)
  quiet (StateFull needed most) load disk sink = (disk, sink)
  quiet ScriptTooLong load disk sink = (disk, sink)

  explained_lacking : (limit : ℕ) (status : Status) → Lacks limit w s d status → IsUntouched k → Explained limit w s d k status
  explained_lacking limit (BookRefused fault) lacks untouched = (lacks, untouched)
  explained_lacking limit ReadFault lacks untouched = (lacks, untouched)
  explained_lacking limit DiskFault lacks untouched = (lacks, untouched)
  explained_lacking limit (BadState offset) lacks untouched = (lacks, untouched)
  explained_lacking limit NoMemory lacks untouched = (lacks, untouched)
  explained_lacking limit Done lacks untouched = absurd lacks
  explained_lacking limit (Usage fault) lacks untouched = absurd lacks
  explained_lacking limit (BuildRefused reason) lacks untouched = absurd lacks
  explained_lacking limit WriteFault lacks untouched = absurd lacks
  explained_lacking limit (StateFull needed most) lacks untouched = absurd lacks
  explained_lacking limit ScriptTooLong lacks untouched = absurd lacks

  module _ (limit : ℕ) (status : Status) (load : LoadsBook w.kind s (Err status)) (unvisited : IsUnvisited d) (untouched : IsUntouched k) where
    parts : TellsDisk d status × TellsSink k status
    parts = quiet status load unvisited.faults untouched.2

    pub tells_no_book : Tells limit w s d k status
    tells_no_book = record {
      did = (explained_lacking limit status (lacks_book limit status load unvisited) untouched, (λ told. unvisited.story));
      read = load.read;
      visits = inl unvisited;
      source = load.source;
      disk = parts.0;
      sink = parts.1;
    }

    pub sits_no_book : (c : OverSource) → IsUnread c → Sits limit w s c d k status
    sits_no_book c unread = record {
      did = inl (lacks_book limit status load unvisited, (λ told. unvisited.story), untouched, unread);
      read = load.read;
      visits = inl unvisited;
      source = inl (load.source, unread);
      disk = parts.0;
      sink = parts.1;
    }

-- ---- no state

module _ (limit : ℕ) (d : OverDisk) (k : OverSink) (story : d.tells → d.new ≡ d.old) (untouched : IsUntouched k) where
  unserved : (c : OverSource) (status : Status) → LoadedOr limit d (Err status) → IsUnread c → LacksState limit d status × TellsSource c status × TellsSink k status
  unserved c DiskFault loaded unread = (tt, unread.1, untouched.2)
  unserved c (BadState offset) loaded unread = (λ told. (loaded told, story told), unread.1, untouched.2)
  unserved c NoMemory loaded unread = (tt, unread.1, untouched.2)
  unserved c Done loaded unread = absurd loaded
  unserved c (BookRefused fault) loaded unread = absurd loaded
  unserved c (Usage fault) loaded unread = absurd loaded
  unserved c (BuildRefused reason) loaded unread = absurd loaded
  unserved c ReadFault loaded unread = absurd loaded
  unserved c WriteFault loaded unread = absurd loaded
  unserved c (StateFull needed most) loaded unread = absurd loaded
  unserved c ScriptTooLong loaded unread = absurd loaded

  pub sits_no_state : (w : Asked) (b : Book) (c : OverSource) (status : Status) → LoadedOr limit d (Err status) → TellsDisk d status → IsUnread c → SessionStaysOver limit b c d → SitsOver limit w b c d k status
  sits_no_state w b c status loaded told unread stays =
      let parts = unserved c status loaded unread in
      record { did = inl (parts.0, story, untouched, unread); stays = stays; source = parts.1; disk = told; sink = parts.2 }

-- ---- over a book that was read

module _ (limit : ℕ) (w : Asked) (s : OverSource) (d : OverDisk) (k : OverSink) (b : Book) (holds : Holds w.kind s (λ c. c ≡ b)) where
  has_book : HasBook w.kind s
  has_book = holds_so w.kind s b holds (λ c. Unit {0}) tt

  lacks_state : (status : Status) → LacksState limit d status → Lacks limit w s d status
  lacks_state DiskFault lacks = has_book
  lacks_state (BadState offset) lacks = (has_book, lacks)
  lacks_state NoMemory lacks = tt
  lacks_state Done lacks = absurd lacks
  lacks_state (BookRefused fault) lacks = absurd lacks
  lacks_state (Usage fault) lacks = absurd lacks
  lacks_state (BuildRefused reason) lacks = absurd lacks
  lacks_state ReadFault lacks = absurd lacks
  lacks_state WriteFault lacks = absurd lacks
  lacks_state (StateFull needed most) lacks = absurd lacks
  lacks_state ScriptTooLong lacks = absurd lacks

  sat_on : (c : OverSource) (status : Status) → SatOver limit w b c d k status → Sat limit w s c d k status
  sat_on c status (inl (lacks, spared, untouched, unread)) = inl (lacks_state status lacks, spared, untouched, unread)
  sat_on c status (inr (end, is, found)) = inr (end, is, holds_so w.kind s b holds (λ e. Found limit d (Carries limit w c d k end e)) found)

  pub sits : (c : OverSource) (status : Status) → SitsOver limit w b c d k status → ReadsEnough s → s.new.faults ≡ s.old.faults → Sits limit w s c d k status
  sits c status over read same = record {
    did = sat_on c status over.did;
    read = read;
    visits = inr (holds_so w.kind s b holds (λ e. SessionStaysOver limit e c d) over.stays);
    source = inr (tt, same, over.source);
    disk = over.disk;
    sink = over.sink;
  }

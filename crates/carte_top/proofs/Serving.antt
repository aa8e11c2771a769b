-- What a session has done, from its loop over a shell.
use Rattle.std.proofs.Common.{◌≡◌, ℕ, ◌+◌, true, List, [], ◌∷◌, ◌++◌, length, Result, Ok, Err, refl, sym, ◌∙◌, ap, subst, inl, inr, ◌⊎◌, append_assoc, append-nil, arith}
use Rattle.carte_io.specs.Causes.{HasCauseOf, Rose}
use Rattle.carte_io.specs.Disk.{LeavesOnly, Story}
use Rattle.carte_io.proofs.Images.{leaves_more, leaves_then}
use Rattle.carte_book.specs.Book.{Book}
use Rattle.carte_session.specs.Lines.{AreAll, AreLines, IsNext, lines_of, spelled}
use Rattle.carte_session.specs.Session.{Ended, Goes}
use Rattle.carte_session.specs.declared.end.SessionEnd.{SessionEnd}
use Rattle.carte_session.specs.declared.end.SessionEnd.TheVariants.{Machine, NoMemory, ReadFault, TooLong, WriteFault}
use Rattle.carte_session.specs.declared.end.StepEnd.{StepEnd}
use Rattle.carte_session.specs.declared.end.StepEnd.TheVariants as line
use Rattle.carte_session.proofs.LineLemmas.{lines_of-all, lines_of-front, next_is, next_weaker, whole_more}
use Rattle.carte_session.proofs.SessionLemmas.{goes_more}
use Rattle.carte_record.specs.declared.batch.Batch.{Batch}
use Rattle.carte_engine.specs.Clearing.{clearing}
use Rattle.carte_engine.proofs.Several.{puts_faults, stops_faults, stops_rose}
use Rattle.carte_shell.specs.Answers.{Answers, Breaks, Ends, Obeys}
use Rattle.carte_shell.specs.Commits.{Stops, disk_between}
use Rattle.carte_shell.specs.Books.{AreBooks, IsBookAt}
use Rattle.carte_shell.specs.Replies.{Said}
use Rattle.carte_shell.specs.Scenes.{Scene}
use Rattle.carte_shell.specs.Sound.{KeepsSound, LeavesSound, StandsSound, StaysSound as LinesStay}
use Rattle.carte_shell.proofs.Sounding.{end_sound, lines_sound}
use Rattle.carte_sound.specs.Base.{HasDistinctDigests}
use Rattle.carte_engine.proofs.Raising.{sound_behind}
use Rattle.carte_sound.proofs.Begins.{front_distinct}
use Rattle.carte_state.specs.Folding.{Keeps}
use Rattle.carte_state.specs.declared.fault.ApplyFault.TheVariants.{Full, NoMemory as ShortOfMemory}
use Rattle.carte_state.specs.States.{IsKeptOn, any_in}
use Rattle.carte_state.proofs.Folds.{keeps_one}
use Rattle.carte_words.specs.declared.line.Line.{Line}
use Rattle.carte_words.specs.declared.line.Line.TheVariants as meaning
use Rattle.carte_words.specs.declared.words.Words.{Words as Asked}
use Rattle.carte_report.specs.declared.status.Status.{Status}
use Rattle.carte_top.specs.Around.{OverSource, OverDisk, OverSink}
use Rattle.carte_top.specs.Found.{Begins}
use Rattle.carte_top.specs.Outcome.{TellsDisk, TellsSink, TellsSource, status_of}
use Rattle.carte_top.specs.Running.{Serves, SitsOver}
use Rattle.carte_top.specs.Sound.{AreFirst, StaysSound}
use Rattle.carte_top.proofs.Putting.{kept_on}
use Rattle.carte_engine.specs.Versions.{IsSoundAny}
use Rattle.carte_state.specs.Versions.{AnyKept}

-- ---- each device's fault by its own status

pub told_source : (c : OverSource) (end : Result (Unit {0}) SessionEnd) → HasCauseOf ReadFault c.old.faults c.new.faults end → TellsSource c (status_of end)
told_source c (Ok done) cause = cause.passed (λ is. cc)
told_source c (Err ReadFault) cause = cause.failed refl
told_source c (Err WriteFault) cause = cause.passed (λ is. cc)
told_source c (Err TooLong) cause = cause.passed (λ is. cc)
told_source c (Err NoMemory) cause = cause.passed (λ is. cc)
told_source c (Err (Machine line.DiskFault)) cause = cause.passed (λ is. cc)
told_source c (Err (Machine (line.StateFull needed most))) cause = cause.passed (λ is. cc)
told_source c (Err (Machine line.NoMemory)) cause = cause.passed (λ is. cc)

pub told_sink : (k : OverSink) (end : Result (Unit {0}) SessionEnd) → HasCauseOf WriteFault k.old.faults k.new.faults end → TellsSink k (status_of end)
told_sink k (Ok done) cause = cause.passed (λ is. cc)
told_sink k (Err ReadFault) cause = cause.passed (λ is. cc)
told_sink k (Err WriteFault) cause = cause.failed refl
told_sink k (Err TooLong) cause = cause.passed (λ is. cc)
told_sink k (Err NoMemory) cause = cause.passed (λ is. cc)
told_sink k (Err (Machine line.DiskFault)) cause = cause.passed (λ is. cc)
told_sink k (Err (Machine (line.StateFull needed most))) cause = cause.passed (λ is. cc)
told_sink k (Err (Machine line.NoMemory)) cause = cause.passed (λ is. cc)

module _ (tells : Type 0) where
  pub obeyed_faults : (m m' : Scene) (l : Line) (reply : Said) → Obeys tells m l reply m' → m'.faults ≡ m.faults
  obeyed_faults m m' meaning.Nothing reply does = ap (λ (x : Scene). x.faults) does.1
  obeyed_faults m m' (meaning.Set k v) reply does = ap (λ (x : Scene). x.faults) does.1
  obeyed_faults m m' (meaning.Build targets) reply does = puts_faults true (disk_between tells m m') m.stand does.1 m'.stand does.4.commits
  obeyed_faults m m' (meaning.Explain targets) reply does = ap (λ (x : Scene). x.faults) does.1
  obeyed_faults m m' meaning.Clean reply does = puts_faults true (disk_between tells m m') m.stand (clearing m.stand ∷ []) m'.stand does.1.commits

  answered_faults : (m m' : Scene) (n : ℕ) (bytes text : List ℕ) → Answers tells m n bytes text m' → m'.faults ≡ m.faults
  answered_faults m m' n bytes text (inl stray) = ap (λ (x : Scene). x.faults) stray.2
  answered_faults m m' n bytes text (inr (l, means, reply, is, does)) = obeyed_faults m m' l reply does

  goes_faults : (n : ℕ) (m m' : Scene) (lines : List (List ℕ)) (said : List ℕ) → Goes (Answers tells) n m lines said m' → m'.faults ≡ m.faults
  goes_faults n m m' [] said goes = ap (λ (x : Scene). x.faults) goes.0
  goes_faults n m m' (bytes ∷ lines) said goes = goes_faults (n + 1) goes.0 m' lines goes.2 goes.4 ∙ answered_faults m goes.0 n bytes goes.1 goes.3

  -- a line that isn't answered: the count rose where the disk failed, and there alone
  abbrev pub Counts : StepEnd → ℕ → ℕ → Type 0
  Counts line.DiskFault before after = Rose before after
  Counts end before after = after ≡ before

  stopped_faults : (m m' : Scene) (Bs : List Batch) (end : StepEnd) → Stops tells m m' Bs end → Counts end m.faults m'.faults
  stopped_faults m m' Bs line.DiskFault stops = stops_rose (disk_between tells m m') m.stand Bs m'.stand stops.commits
  stopped_faults m m' Bs (line.StateFull needed most) stops = stops_faults (disk_between tells m m') m.stand Bs m'.stand (Full needed most) stops.commits (λ is. cc)
  stopped_faults m m' Bs line.NoMemory stops = stops_faults (disk_between tells m m') m.stand Bs m'.stand ShortOfMemory stops.commits (λ is. cc)

  same_count : (m m' : Scene) (end : StepEnd) → end ≡ line.NoMemory → m' ≡ m → Counts end m.faults m'.faults
  same_count m m' end is same = subst (λ (e : StepEnd). Counts e m.faults m'.faults) (sym is) (ap (λ (x : Scene). x.faults) same)

  pub broken_faults : (m m' : Scene) (l : Line) (end : StepEnd) → Breaks tells m l end m' → Counts end m.faults m'.faults
  broken_faults m m' l end (inl (is, same)) = same_count m m' end is same
  broken_faults m m' l end (inr (Bs, brings, stops)) = stopped_faults m m' Bs end stops

  ended_faults : (m m' : Scene) (n : ℕ) (bytes : List ℕ) (end : StepEnd) → Ends tells m n bytes end m' → Counts end m.faults m'.faults
  ended_faults m m' n bytes end (inl (is, same)) = same_count m m' end is same
  ended_faults m m' n bytes end (inr (l, means, breaks)) = broken_faults m m' l end breaks

  module _ (c : OverSource) (k : OverSink) (d : OverDisk) (m m' : Scene) (before : m.faults ≡ d.failed_before) (after : m'.faults ≡ d.failed) where
    same_faults : m'.faults ≡ m.faults → d.failed ≡ d.failed_before
    same_faults same = sym after ∙ same ∙ before

    pub told_disk : (limit : ℕ) (read : List ℕ) (end : Result (Unit {0}) SessionEnd) → Ended (Answers tells) (Ends tells) m m' c k limit read end → TellsDisk d (status_of end)
    told_disk limit read (Ok done) is = same_faults (goes_faults 1 m m' is.0 is.1 is.3)
    told_disk limit read (Err ReadFault) is = same_faults (goes_faults 1 m m' is.0 is.1 is.4)
    told_disk limit read (Err TooLong) is = same_faults (goes_faults 1 m m' is.0 is.1 is.4)
    told_disk limit read (Err WriteFault) is =
        same_faults (answered_faults is.0.2 m' (length is.0.0 + 1) is.0.3 is.0.4 is.0.7 ∙ goes_faults 1 m is.0.2 is.0.0 is.0.1 is.0.6)
    told_disk limit read (Err NoMemory) is = same_faults (goes_faults 1 m m' is.0.0 is.0.1 is.0.8)
    told_disk limit read (Err (Machine line.DiskFault)) is =
        let there : Rose is.0.2.faults m'.faults = ended_faults is.0.2 m' (length is.0.0 + 1) is.0.3 line.DiskFault is.0.6 in
        let from : Rose m.faults m'.faults = subst (λ (n : ℕ). Rose n m'.faults) (goes_faults 1 m is.0.2 is.0.0 is.0.1 is.0.5) there in
        subst (λ (n : ℕ). Rose n d.failed) before (subst (λ (n : ℕ). Rose m.faults n) after from)
    told_disk limit read (Err (Machine (line.StateFull needed most))) is =
        same_faults (ended_faults is.0.2 m' (length is.0.0 + 1) is.0.3 (line.StateFull needed most) is.0.6 ∙ goes_faults 1 m is.0.2 is.0.0 is.0.1 is.0.5)
    told_disk limit read (Err (Machine line.NoMemory)) is =
        same_faults (ended_faults is.0.2 m' (length is.0.0 + 1) is.0.3 line.NoMemory is.0.6 ∙ goes_faults 1 m is.0.2 is.0.0 is.0.1 is.0.5)

-- ---- the books at the lines with which a session began, and what it leaves

-- one line more
books_more : (b c d : Book) (lines : List (List ℕ)) (bytes : List ℕ) (J I : List Book) → AreBooks b lines J c → IsBookAt c bytes I d → AreBooks b (lines ++ bytes ∷ []) (J ++ I) d
books_more b c d [] bytes J I are at =
    let same : J ++ I ≡ I ++ [] = ap (λ K. K ++ I) are.0 ∙ sym (append-nil I) in
    (d, I, [], subst (λ (e : Book). IsBookAt e bytes I d) are.1 at, same, (refl, refl))
books_more b c d (bytes0 ∷ lines) bytes J I are at = (
  are.0,
  are.1,
  are.2 ++ I,
  are.3,
  ap (λ K. K ++ I) are.4 ∙ append_assoc are.1 are.2 I,
  books_more are.0 c d lines bytes are.2 I are.5 at,
)

module _ (tells : Type 0) (c : OverSource) (m m' : Scene) where
  abbrev FirstSound : Type 0
  FirstSound = (J : List Book) × AreFirst c m.book J × LeavesSound tells m m' J

  -- these lines begin the script
  abbrev Begin : List (List ℕ) → Type 0
  Begin lines = c.tells → (later : List (List ℕ)) × (lines_of c.old.left ≡ lines ++ later)

  all_answered : (lines : List (List ℕ)) (said : List ℕ) → Begin lines → Goes (Answers tells) 1 m lines said m' → FirstSound
  all_answered lines said begin goes =
      let all = lines_sound tells 1 m m' lines said goes in
      (all.0, record { lines = lines; first = begin; last = m'.book; books = all.1 }, (λ told H stands distinct. (all.3 told H stands distinct).1))

  -- the last line isn't answered
  last_not : (mid : Scene) (lines : List (List ℕ)) (said bytes : List ℕ) (n : ℕ) (end : StepEnd) → Begin (lines ++ bytes ∷ []) → Begin lines → Goes (Answers tells) 1 m lines said mid → Ends tells mid n bytes end m' → FirstSound
  last_not mid lines said bytes n end begin_last begin goes ends = elim last.1 [
    | inl none ↦ (
      all.0 ++ last.0,
      record {
        lines = lines;
        first = begin;
        last = mid.book;
        books = subst (λ I. AreBooks m.book lines I mid.book) (sym (ap (λ I. all.0 ++ I) none ∙ append-nil all.0)) all.1;
      },
      both,
    )
    | inr at ↦ (
      all.0 ++ last.0,
      record { lines = lines ++ bytes ∷ []; first = begin_last; last = mid.book; books = books_more m.book mid.book mid.book lines bytes all.0 last.0 all.1 at },
      both,
    )
  ]
    where
      all : (J : List Book) × AreBooks m.book lines J mid.book × (mid.stand.journal.limit ≡ m.stand.journal.limit) × LinesStay tells m mid J
      all = lines_sound tells 1 m mid lines said goes

      last : (I : List Book) × ((I ≡ []) ⊎ IsBookAt mid.book bytes I mid.book) × LeavesSound tells mid m' I
      last = end_sound tells n mid m' bytes end ends

      both : LeavesSound tells m m' (all.0 ++ last.0)
      both told H stands distinct =
          let J = all.0 in
          let I = last.0 in
          let limit = m.stand.journal.limit in
          let assoc = append_assoc H J I in
          let distinct_on = subst HasDistinctDigests (sym assoc) distinct in
          let a = all.3 told H stands (front_distinct (H ++ J) I distinct_on) in
          leaves_then m.story mid.story m'.story (KeepsSound limit (H ++ (J ++ I)))
          (leaves_more m.story mid.story (KeepsSound limit (H ++ J)) (KeepsSound limit (H ++ (J ++ I)))
          (λ file keeps. (keeps.0, keeps.1, subst (IsSoundAny keeps.0) assoc (sound_behind keeps.0 (H ++ J) I keeps.2))) a.1)
          (subst (λ (most : ℕ). LeavesOnly mid.story m'.story (KeepsSound most (H ++ (J ++ I)))) all.2
          (subst (λ (G : List Book). LeavesOnly mid.story m'.story (KeepsSound mid.stand.journal.limit G)) assoc (last.2 told (H ++ J) a.0 distinct_on)))

module _ (c : OverSource) (read : List ℕ) where
  -- whole lines at the front of what was read
  begin_front : (lines : List (List ℕ)) (rest more : List ℕ) → AreLines lines → read ≡ spelled lines ++ rest → c.old.left ≡ read ++ more → (later : List (List ℕ)) × (lines_of c.old.left ≡ lines ++ later)
  begin_front lines rest more are whole left =
      (lines_of (rest ++ more), ap lines_of (left ∙ whole_more read rest more lines whole) ∙ lines_of-front lines (rest ++ more) are)

  begin_all : (lines : List (List ℕ)) → AreAll read lines → c.old.left ≡ read → (later : List (List ℕ)) × (lines_of c.old.left ≡ lines ++ later)
  begin_all lines all left = ([], ap lines_of left ∙ sym (lines_of-all read lines all) ∙ sym (append-nil lines))

  module _ (lines : List (List ℕ)) (bytes : List ℕ) (most : ℕ) (next : IsNext read lines bytes most (c.tells → c.new.left ≡ [])) (told : c.tells) (left : c.old.left ≡ read ++ c.new.left) where
    there : (later : List (List ℕ)) × (lines_of (read ++ c.new.left) ≡ lines ++ bytes ∷ later)
    there = next_is read c.new.left bytes lines most (next_weaker read bytes lines most most (c.tells → c.new.left ≡ []) (c.new.left ≡ []) (omega arith) (λ at_end. at_end told) next)

    begin_next : (later : List (List ℕ)) × (lines_of c.old.left ≡ (lines ++ bytes ∷ []) ++ later)
    begin_next = (there.0, ap lines_of left ∙ there.1 ∙ sym (append_assoc lines (bytes ∷ []) there.0))

    begin_before : (later : List (List ℕ)) × (lines_of c.old.left ≡ lines ++ later)
    begin_before = (bytes ∷ there.0, ap lines_of left ∙ there.1)

pub first_sound : (tells : Type 0) (c : OverSource) (k : OverSink) (m m' : Scene) (limit : ℕ) (read : List ℕ) (end : Result (Unit {0}) SessionEnd) → Ended (Answers tells) (Ends tells) m m' c k limit read end → FirstSound tells c m m'
first_sound tells c k m m' limit read (Ok done) is = all_answered tells c m m' is.0 is.1 (λ told. begin_all c read is.0 is.2 (is.5 told).0) is.3
first_sound tells c k m m' limit read (Err ReadFault) is =
    all_answered tells c m m' is.0 is.1 (λ told. begin_front c read is.0 is.2 c.new.left is.3.lined is.3.whole (is.6 told)) is.4
first_sound tells c k m m' limit read (Err TooLong) is =
    all_answered tells c m m' is.0 is.1 (λ told. begin_front c read is.0 is.2 ((is.7 told).0 ∷ c.new.left) is.3.lined is.3.whole (is.7 told).1) is.4
first_sound tells c k m m' limit read (Err WriteFault) is =
    all_answered tells c m m' (is.0.0 ++ is.0.3 ∷ []) (is.0.1 ++ is.0.4) (λ told. begin_next c read is.0.0 is.0.3 c.new.last is.0.5 told (is.1 told))
    (goes_more (Answers tells) is.0.0 1 (length is.0.0 + 1) m is.0.2 m' is.0.1 is.0.3 is.0.4 is.0.6 refl is.0.7)
first_sound tells c k m m' limit read (Err NoMemory) is =
    all_answered tells c m m' is.0.0 is.0.1 (λ told. begin_front c read is.0.0 (is.0.2 ++ is.0.3) c.new.left is.0.5 is.0.4 (is.1 told)) is.0.8
first_sound tells c k m m' limit read (Err (Machine end)) is =
    last_not tells c m m' is.0.2 is.0.0 is.0.1 is.0.3 (length is.0.0 + 1) end (λ told. begin_next c read is.0.0 is.0.3 c.new.last is.0.4 told (is.1 told))
    (λ told. begin_before c read is.0.0 is.0.3 c.new.last is.0.4 told (is.1 told)) is.0.5 is.0.6

-- what is left of the disk that the state was loaded from
pub stays_sound : (limit : ℕ) (w : Asked) (b : Book) (K : AnyKept) (d : OverDisk) (m m' : Scene) (J : List Book) → Begins limit w d b K m → m'.story ≡ d.new → (d.tells → Keeps limit K d.old.now.reads) → LeavesSound d.tells m m' J → StaysSound limit J d
stays_sound limit w b K d m m' J begins last found leaves told settled H (L, keeps, sound) distinct =
    let same : L ≡ any_in m.stand = keeps_one limit d.old.now.reads L K keeps (found told) ∙ sym begins.keeps in
    let on : IsKeptOn m.stand m.story = subst (λ (s : Story). IsKeptOn m.stand s) (sym (begins.story told)) (kept_on m.stand d.old (begins.loaded told) settled) in
    let stands : StandsSound m H = record { kept_on = on; sound = subst (λ (M : AnyKept). IsSoundAny M H) same sound } in
    let left : LeavesOnly m.story m'.story (KeepsSound limit (H ++ J)) = subst (λ (n : ℕ). LeavesOnly m.story m'.story (KeepsSound n (H ++ J))) begins.limit_is (leaves told H stands distinct) in
    let from : LeavesOnly d.old m'.story (KeepsSound limit (H ++ J)) = subst (λ (s : Story). LeavesOnly s m'.story (KeepsSound limit (H ++ J))) (begins.story told) left in
    subst (λ (s : Story). LeavesOnly d.old s (KeepsSound limit (H ++ J))) last from

-- ---- all of it

pub served : (limit : ℕ) (w : Asked) (b : Book) (K : AnyKept) (c : OverSource) (d : OverDisk) (k : OverSink) (m m' : Scene) (status : Status) → (d.tells → Keeps limit K d.old.now.reads) → Begins limit w d b K m → m'.story ≡ d.new → m'.faults ≡ d.failed
    → Serves m m' d.tells c k status → SitsOver limit w b c d k status
served limit w b K c d k m m' status found begins story faults serves = record {
  did = inr (serves.end, serves.status_is, (K, found, record { first = m; last = m'; begins = begins; story = story; faults = faults; goes = serves.goes }));
  stays = (left.0, subst (λ (x : Book). AreFirst c x left.0) begins.book left.1, stays_sound limit w b K d m m' left.0 begins story found left.2);
  source = subst (TellsSource c) (sym serves.status_is) (told_source c serves.end serves.goes.source_cause);
  disk = subst (TellsDisk d) (sym serves.status_is) (told_disk d.tells c k d m m' begins.faults faults 67108864 serves.goes.read serves.end serves.goes.ended);
  sink = subst (TellsSink k) (sym serves.status_is) (told_sink k serves.end serves.goes.sink_cause);
}
  where
    left : FirstSound d.tells c m m'
    left = first_sound d.tells c k m m' 67108864 serves.goes.read serves.end serves.goes.ended

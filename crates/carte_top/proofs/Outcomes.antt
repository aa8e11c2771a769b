-- The whole of a run, from what was done and what was said.
use Rattle.std.proofs.Common.{◌≡◌, ℕ, true, false, List, Result, Ok, Err, refl, sym, subst, inl, inr, ◌⊎◌}
use Rattle.carte_words.specs.Words.{words_of, IsCause}
use Rattle.carte_words.specs.declared.fault.WordsFault.{WordsFault}
use Rattle.carte_words.specs.declared.fault.WordsFault.TheVariants.{NoMemory as WordsNoMemory}
use Rattle.carte_words.specs.declared.words.Command.{Command}
use Rattle.carte_words.specs.declared.words.Command.TheVariants as command
use Rattle.carte_words.specs.declared.words.Words.{Words as Asked}
use Rattle.carte_session.specs.declared.end.SessionEnd.{SessionEnd}
use Rattle.carte_session.specs.declared.end.SessionEnd.TheVariants as session
use Rattle.carte_session.specs.declared.end.StepEnd.TheVariants as line
use Rattle.carte_report.specs.declared.status.Status.{Status}
use Rattle.carte_report.specs.declared.status.Status.TheVariants.{Done, BookRefused, Usage, BuildRefused, ReadFault, WriteFault, DiskFault, BadState, StateFull, NoMemory, ScriptTooLong}
use Rattle.carte_top.specs.Around.{OverSource, OverDisk, OverSink, Around, IsUnread, IsUnvisited, IsUntouched}
use Rattle.carte_top.specs.Sound.{KeepsOn}
use Rattle.carte_top.specs.Outcome.{Asks, ComesTo, Does, Ended, EndsShort, IsShort, IsSpared, KeepsRefused, Ran, Sat, StopsShort, TellsEither, TellsSources, status_of}
use Rattle.carte_top.specs.Running.{IsRun, ReadsEnough, Reports, Runs, is_brief, is_spoken, usage_of}
use Rattle.carte_top.specs.Whole.{IsOutcome}
use Rattle.carte_top.proofs.Completing.{comes, comes_full}
use Rattle.carte_top.proofs.Sounds.{sound_run}

-- its line may want memory, or it is the want of it
abbrev IsLate : Status → Type 0
IsLate Done = ⊥
IsLate WriteFault = ⊥
IsLate ReadFault = ⊥
IsLate DiskFault = ⊥
IsLate status = Unit {0}

module _ (limit : ℕ) (w : Asked) (s c : OverSource) (d : OverDisk) (k : OverSink) where
  -- a session whose status is want of memory, or whose line may want it
  short_of : (end : Result (Unit {0}) SessionEnd) (status : Status) → status ≡ status_of end → IsLate status → ComesTo limit w s c d k end → (e : SessionEnd) × IsShort e × ComesTo limit w s c d k (Err e)
  short_of (Ok done) status is late comes = absurd (subst IsLate is late)
  short_of (Err session.ReadFault) status is late comes = absurd (subst IsLate is late)
  short_of (Err session.WriteFault) status is late comes = absurd (subst IsLate is late)
  short_of (Err session.TooLong) status is late comes = (session.TooLong, tt, comes)
  short_of (Err session.NoMemory) status is late comes = (session.NoMemory, tt, comes)
  short_of (Err (session.Machine line.DiskFault)) status is late comes = absurd (subst IsLate is late)
  short_of (Err (session.Machine (line.StateFull needed most))) status is late comes = (session.Machine (line.StateFull needed most), tt, comes)
  short_of (Err (session.Machine line.NoMemory)) status is late comes = (session.Machine line.NoMemory, tt, comes)

  -- what holds of a run whose status is want of memory
  abbrev Short : Type 0
  Short = (IsUntouched k × (IsSpared d ⊎ StopsShort w.command limit s d w ⊎ KeepsRefused limit s d w)) ⊎ EndsShort limit s c d k w

  spared : IsUntouched k × IsSpared d → Short
  spared both = inl (both.0, inl both.1)

  stopped : (to : Command) → w.command ≡ to → IsUntouched k → StopsShort to limit s d w → Short
  stopped to is untouched stops = inl (untouched, inr (inl (subst (λ (c : Command). StopsShort c limit s d w) (sym is) stops)))

  kept : IsUntouched k → KeepsRefused limit s d w → Short
  kept untouched keeps = inl (untouched, inr (inr keeps))

  of_session : (status : Status) → w.command ≡ command.Session → IsLate status → Sat limit w s c d k status → Short
  of_session status is late (inl (lacks, spared, untouched, unread)) = inl (untouched, inl spared)
  of_session status is late (inr (end, told, comes)) = inr (is, short_of end status told late comes)

  -- the statuses whose line may want memory leave the reply unwritten, and all but two the state as it was; but for sessions
  of_book : (to : Command) (fault : _) → w.command ≡ to → Does to limit w s c d k (BookRefused fault) → Short
  of_book command.Build fault is did = spared (did.2, λ told. did.1.story)
  of_book command.Session fault is did = of_session (BookRefused fault) is tt did
  of_book command.Explain fault is did = spared (did.0.1, did.1)
  of_book command.Clean fault is did = absurd did.1
  of_book command.Generate fault is did = absurd did.1

  of_build : (to : Command) (reason : _) → w.command ≡ to → Does to limit w s c d k (BuildRefused reason) → Short
  of_build command.Build reason is did =
      let holds = did.0 in
      let found = holds.4 in
      kept did.1 (inl (is, (holds.0, holds.1, holds.2, holds.3, (found.0, found.1, (reason, found.2)))))
  of_build command.Session reason is did = of_session (BuildRefused reason) is tt did
  of_build command.Explain reason is did = spared (did.0.1, did.1)
  of_build command.Clean reason is did = absurd did.1
  of_build command.Generate reason is did =
      let makes = did.1.0 in
      let found = makes.2 in
      kept did.1.1 (inr (is, (makes.0, makes.1, (found.0, found.1, (reason, found.2)))))

  of_bad : (to : Command) (offset : ℕ) → w.command ≡ to → Does to limit w s c d k (BadState offset) → Short
  of_bad command.Build offset is did = spared (did.2, λ told. (did.1 told).1)
  of_bad command.Session offset is did = of_session (BadState offset) is tt did
  of_bad command.Explain offset is did = spared (did.0.1, did.1)
  of_bad command.Clean offset is did = spared (did.1.1, λ told. (did.1.0 told).1)
  of_bad command.Generate offset is did = spared (did.1.2, λ told. (did.1.1 told).1)

  of_full : (to : Command) (needed most : ℕ) → w.command ≡ to → Does to limit w s c d k (StateFull needed most) → Short
  of_full command.Build needed most is did = let holds = did.0 in stopped command.Build is did.1 (holds.0, holds.1, holds.2, holds.3, inr (needed, most, holds.4))
  of_full command.Session needed most is did = of_session (StateFull needed most) is tt did
  of_full command.Explain needed most is did = absurd did.0.0
  of_full command.Clean needed most is did = stopped command.Clean is did.1.1 (inr (needed, most, did.1.0))
  of_full command.Generate needed most is did = let makes = did.1.0 in stopped command.Generate is did.1.1 (makes.0, makes.1, inr (needed, most, makes.2))

  of_long : (to : Command) → w.command ≡ to → Does to limit w s c d k ScriptTooLong → Short
  of_long command.Build is did = absurd did
  of_long command.Session is did = of_session ScriptTooLong is tt did
  of_long command.Explain is did = absurd did.0.0
  of_long command.Clean is did = absurd did.1
  of_long command.Generate is did = absurd did.1

  of_memory : (to : Command) → w.command ≡ to → Does to limit w s c d k NoMemory → Short
  of_memory command.Build is (untouched, inl same) = spared (untouched, same)
  of_memory command.Build is (untouched, inr (bytes, was, b, book, halts)) = stopped command.Build is untouched (bytes, was, b, book, inl halts)
  of_memory command.Session is did = of_session NoMemory is tt did
  of_memory command.Explain is did = spared (did.0.1, did.1)
  of_memory command.Clean is (unread, (untouched, inl same)) = spared (untouched, same)
  of_memory command.Clean is (unread, (untouched, inr clears)) = stopped command.Clean is untouched (inl clears)
  of_memory command.Generate is (unread, (untouched, inl same)) = spared (untouched, same)
  of_memory command.Generate is (unread, (untouched, inr (b, made, halts))) = stopped command.Generate is untouched (b, made, inl halts)

  never_usage : (end : Result (Unit {0}) SessionEnd) (fault : _) → Usage fault ≡ status_of end → ⊥
  never_usage (Ok done) fault is = cc
  never_usage (Err session.ReadFault) fault is = cc
  never_usage (Err session.WriteFault) fault is = cc
  never_usage (Err session.TooLong) fault is = cc
  never_usage (Err session.NoMemory) fault is = cc
  never_usage (Err (session.Machine line.DiskFault)) fault is = cc
  never_usage (Err (session.Machine (line.StateFull needed most))) fault is = cc
  never_usage (Err (session.Machine line.NoMemory)) fault is = cc

  sat_usage : (fault : _) → Sat limit w s c d k (Usage fault) → ⊥
  sat_usage fault (inl lacks) = lacks.0
  sat_usage fault (inr (end, told, comes)) = never_usage end fault told

  of_usage : (to : Command) (fault : _) → Does to limit w s c d k (Usage fault) → ⊥
  of_usage command.Build fault did = did
  of_usage command.Session fault did = sat_usage fault did
  of_usage command.Explain fault did = did.0.0
  of_usage command.Clean fault did = did.1
  of_usage command.Generate fault did = did.1

  pub as_memory : (words : List (List ℕ)) → words_of words ≡ Ok w → Short → Ran limit words s c d k NoMemory
  as_memory words asked (inl (untouched, inl same)) = inl (untouched, inl same)
  as_memory words asked (inl (untouched, inr (inl stops))) = inl (untouched, inr (inl (w, asked, stops)))
  as_memory words asked (inl (untouched, inr (inr keeps))) = inl (untouched, inr (inr (w, asked, keeps)))
  as_memory words asked (inr short) = inr (w, asked, short)

-- what the words ask for was done
pub commanded : (limit : ℕ) (words : List (List ℕ)) (w : Asked) (s c : OverSource) (d : OverDisk) (k : OverSink) (status : Status) → words_of words ≡ Ok w → Does w.command limit w s c d k status → Ran limit words s c d k status
commanded limit words w s c d k (Usage fault) asked did = absurd (of_usage limit w s c d k w.command fault did)
commanded limit words w s c d k NoMemory asked did = as_memory limit w s c d k words asked (of_memory limit w s c d k w.command refl did)
commanded limit words w s c d k status asked did = (w, asked, did)

-- a run by the words, and one whose words ask for nothing
pub ran_so : (limit : ℕ) (words : List (List ℕ)) (w : Asked) (s c : OverSource) (d : OverDisk) (k : OverSink) (status : Status) → words_of words ≡ Ok w → Runs limit w s c d k status → IsRun limit words s c d k status
ran_so limit words w s c d k status asked runs =
    record { did = commanded limit words w s c d k status asked runs.did; read = runs.read; visits = visited runs.visits; source = told runs.source; disk = runs.disk; sink = runs.sink }
  where
    visited : IsUnvisited d ⊎ KeepsOn w.command limit w s c d → IsUnvisited d ⊎ Asks words (λ v. KeepsOn v.command limit v s c d)
    visited (inl unvisited) = inl unvisited
    visited (inr keeps) = inr (w, asked, keeps)

    told : TellsEither s c status (w.command ≡ command.Session) → TellsSources words s c status
    told (inl alone) = inl alone
    told (inr (is, same, tells)) = inr ((w, asked, is), same, tells)

pub unasked : (limit : ℕ) (words : List (List ℕ)) (s c : OverSource) (d : OverDisk) (k : OverSink) (fault : WordsFault) → (IsCause fault → words_of words ≡ Err fault) → IsUnread s → IsUnread c → IsUnvisited d → IsUntouched k → ReadsEnough s
    → IsRun limit words s c d k (usage_of fault)
unasked limit words s c d k WordsNoMemory why unread still unvisited untouched read =
    record { did = inl (untouched, inl (λ told. unvisited.story)); read = read; visits = inl unvisited; source = inl (unread.1, still); disk = unvisited.faults; sink = untouched.2 }
unasked limit words s c d k fault why unread still unvisited untouched read =
    record { did = (why tt, unread, unvisited, untouched); read = read; visits = inl unvisited; source = inl (unread.1, still); disk = unvisited.faults; sink = untouched.2 }

-- where there was no memory for the error line
module _ (limit : ℕ) (words : List (List ℕ)) (s c : OverSource) (d : OverDisk) (k : OverSink) where
  same_told : (status : Status) → IsLate status → TellsSources words s c status → TellsSources words s c NoMemory
  same_told ReadFault late told = absurd late
  same_told status late (inl alone) = inl alone
  same_told status late (inr session) = inr session

  lost_by : (old : Status) → IsLate old → Ran limit words s c d k NoMemory → IsRun limit words s c d k old → d.failed ≡ d.failed_before → k.new.faults ≡ k.old.faults → IsRun limit words s c d k NoMemory
  lost_by old late did run disk sink = record { did = did; read = run.read; visits = run.visits; source = same_told old late run.source; disk = disk; sink = sink }

  lost : (old : Status) → is_spoken old ≡ true → is_brief old ≡ false → IsRun limit words s c d k old → IsRun limit words s c d k NoMemory
  lost Done spoken long run = cc
  lost WriteFault spoken long run = cc
  lost ReadFault spoken long run = cc
  lost DiskFault spoken long run = cc
  lost NoMemory spoken long run = run
  lost (BookRefused fault) spoken long run =
      let w = run.did.0 in
      lost_by (BookRefused fault) tt (as_memory limit w s c d k words run.did.1 (of_book limit w s c d k w.command fault refl run.did.2)) run run.disk run.sink
  lost (Usage fault) spoken long run = lost_by (Usage fault) tt (inl (run.did.3, inl (λ told. run.did.2.story))) run run.disk run.sink
  lost (BuildRefused reason) spoken long run =
      let w = run.did.0 in
      lost_by (BuildRefused reason) tt (as_memory limit w s c d k words run.did.1 (of_build limit w s c d k w.command reason refl run.did.2)) run run.disk run.sink
  lost (BadState offset) spoken long run =
      let w = run.did.0 in
      lost_by (BadState offset) tt (as_memory limit w s c d k words run.did.1 (of_bad limit w s c d k w.command offset refl run.did.2)) run run.disk run.sink
  lost (StateFull needed most) spoken long run =
      let w = run.did.0 in
      lost_by (StateFull needed most) tt (as_memory limit w s c d k words run.did.1 (of_full limit w s c d k w.command needed most refl run.did.2)) run run.disk run.sink
  lost ScriptTooLong spoken long run =
      let w = run.did.0 in
      lost_by ScriptTooLong tt (as_memory limit w s c d k words run.did.1 (of_long limit w s c d k w.command refl run.did.2)) run run.disk run.sink

  reported : (old new : Status) → Reports old new → IsRun limit words s c d k old → IsRun limit words s c d k new
  reported old new (inl same) run = subst (λ (x : Status). IsRun limit words s c d k x) (sym same) run
  reported old new (inr (spoken, long, is)) run = subst (λ (x : Status). IsRun limit words s c d k x) (sym is) (lost old spoken long run)

pub outcome : (limit : ℕ) (a : Around) (old new : Status) → IsRun limit a.words a.book a.script a.state a.out old → Reports old new → Ended a.err new → IsOutcome limit a new
outcome limit a old new was reports ended =
    let run = reported limit a.words a.book a.script a.state a.out old new reports was in
    record {
      ran = run.did;
      read = run.read;
      visits = run.visits;
      sound = sound_run limit a.words a.book a.script a.state run.visits;
      source = run.source;
      disk = run.disk;
      sink = run.sink;
      ended = ended;
      complete = λ due is. comes limit a.words a.book a.script a.state a.out new due run.did is;
      full = λ is. comes_full limit a.words a.book a.script a.state a.out new run.did is;
    }

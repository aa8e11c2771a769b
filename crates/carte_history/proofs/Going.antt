-- The commits of a run as steps: where the images stand, and how many calls have passed.
use Rattle.std.proofs.Common.{◌≡◌, ◌⊎◌, ℕ, ◌+◌, ◌<◌, ◌≤◌, true, List, [], ◌∷◌, ◌++◌, length, Result, Ok, Err, refl, sym, ◌∙◌, ap, subst, inl, inr, arith, append-nil}
use Rattle.carte_io.specs.Disk.{IsSettled, Story}
use Rattle.carte_io.specs.Stations.{StepsThrough, calls_in}
use Rattle.carte_io.proofs.Acknowledged.{calls_in-append, steps_none}
use Rattle.carte_io.proofs.Images.{leaves_none, settled_image}
use Rattle.carte_book.specs.Book.{Book}
use Rattle.carte_record.specs.declared.batch.Batch.{Batch}
use Rattle.carte_session.specs.Session.{Ended}
use Rattle.carte_session.specs.declared.end.SessionEnd.{SessionEnd}
use Rattle.carte_session.specs.declared.end.SessionEnd.TheVariants as session
use Rattle.carte_session.specs.declared.end.StepEnd.{StepEnd}
use Rattle.carte_session.specs.declared.end.StepEnd.TheVariants as ending
use Rattle.carte_state.specs.Around.{OverDisk}
use Rattle.carte_state.specs.Folding.{Keeps}
use Rattle.carte_state.specs.States.{IsKeptOn, any_in}
use Rattle.carte_state.specs.declared.fault.ApplyFault.{ApplyFault}
use Rattle.carte_state.specs.declared.fault.ApplyFault.TheVariants as applying
use Rattle.carte_engine.specs.Committing.{behind as onwards, steps_put, steps_stopped}
use Rattle.carte_words.specs.declared.words.Command.{Command}
use Rattle.carte_words.specs.declared.words.Command.TheVariants as command
use Rattle.carte_words.specs.declared.words.Words.{Words as Asked}
use Rattle.carte_shell.specs.Answers.{Answers, Ends}
use Rattle.carte_shell.specs.Scenes.{Scene}
use Rattle.carte_shell.specs.Stopping.{fault_of}
use Rattle.carte_report.specs.declared.status.Status.{Status}
use Rattle.carte_report.specs.declared.status.Status.TheVariants as status
use Rattle.carte_top.specs.Around.{Around, OverSink, OverSource}
use Rattle.carte_top.specs.Found.{Carries, for_last}
use Rattle.carte_top.specs.Outcome.{IsShort, status_of}
use Rattle.carte_top.proofs.Putting.{kept_on}
use Rattle.carte_history.specs.Steps.{AreBuilt, AreCommitted, ArePutBy, AreSat, AreSteps, AreStepsFor, AreStoppedBy, EndsSo, Steps, steps_answered, steps_ended, steps_lines, steps_replied, steps_unreplied}
use Rattle.carte_history.proofs.Lines.{StandsOn, cut_ended, taken_answered, taken_lines}
use Rattle.carte_history.proofs.Stretches.{IsCut, IsStretch, Passes, cut_then, passes_of, stretch_then}
use Rattle.carte_state.specs.Versions.{AnyKept}

-- Through these steps the images stand. The calls of those in front have passed; those of all, where the disk didn't fail; and where it did, none, or not all.
pub record Went (limit : ℕ) (K : AnyKept) (front rest : Steps) (Failed : Type 0) (old new : Story) : Type 0 where
  pub through : StepsThrough (Keeps limit) K (front ++ rest) old new
  pub said : old.now.passed + calls_in front ≤ new.now.passed
  pub all : ¬ Failed → new.now.passed ≡ old.now.passed + calls_in (front ++ rest)
  pub few : Failed → (new.now.passed ≡ old.now.passed) ⊎ (new.now.passed < old.now.passed + calls_in (front ++ rest))

-- all were made
went_all : (limit : ℕ) (K : AnyKept) (front rest : Steps) (Failed : Type 0) (old new : Story) → ¬ Failed → StepsThrough (Keeps limit) K (front ++ rest) old new
    → new.now.passed ≡ old.now.passed + calls_in (front ++ rest) → Went limit K front rest Failed old new
went_all limit K front rest Failed old new whole through calls = record {
  through = through;
  said = omega (arith, calls, calls_in-append front rest);
  all = λ also. calls;
  few = λ failed. absurd (whole failed);
}

-- nothing was done
went_none : (limit : ℕ) (K : AnyKept) (Failed : Type 0) (old new : Story) → IsSettled old.now → Keeps limit K old.now.reads → new ≡ old → Went limit K [] [] Failed old new
went_none limit K Failed old new settled keeps same =
    let passed : new.now.passed ≡ old.now.passed = ap (λ (u : Story). u.now.passed) same in
    record {
      through = still limit K old new settled keeps same;
      said = omega (arith, passed);
      all = λ whole. omega (arith, passed);
      few = λ failed. inl passed;
    }
  where
    still : (limit : ℕ) (K : AnyKept) (old new : Story) → IsSettled old.now → Keeps limit K old.now.reads → new ≡ old → StepsThrough (Keeps limit) K [] old new
    still limit K old new settled keeps same =
        steps_none (Keeps limit) K old new
        (leaves_none old new (Keeps limit K) same (λ image there. subst (Keeps limit K) (sym (settled_image old.now image settled there)) keeps))

-- the last of them was not made, for this reason
went_cut : (limit : ℕ) (K : AnyKept) (front rest : Steps) (fault : ApplyFault) (Failed : Type 0) (old new : Story) → (fault ≡ applying.DiskFault → Failed) → (Failed → fault ≡ applying.DiskFault)
    → StepsThrough (Keeps limit) K (front ++ rest) old new → old.now.passed + calls_in front ≤ new.now.passed → Passes fault (calls_in (front ++ rest)) old.now.passed new.now.passed
    → Went limit K front rest Failed old new
went_cut limit K front rest applying.DiskFault Failed old new is so through said passes =
    record { through = through; said = said; all = λ whole. absurd (whole (is refl)); few = λ failed. inr passes }
went_cut limit K front rest (applying.Full needed most) Failed old new is so through said passes =
    record { through = through; said = said; all = λ whole. passes; few = λ failed. let same : applying.Full needed most ≡ applying.DiskFault = so failed in cc }
went_cut limit K front rest applying.NoMemory Failed old new is so through said passes =
    record { through = through; said = said; all = λ whole. passes; few = λ failed. let same : applying.NoMemory ≡ applying.DiskFault = so failed in cc }

-- ---- the batches of a build, or of a clearing

module _ (limit : ℕ) (d : OverDisk) (K : AnyKept) (told : d.tells) (settled : IsSettled d.old.now) (begun : d.old.now.passed ≡ 0) where
  put_went : (Bs : List Batch) (steps : Steps) (Failed : Type 0) → ¬ Failed → ArePutBy limit d K Bs steps → Went limit K [] steps Failed d.old d.new
  put_went Bs steps Failed whole (put, is) =
      let all = steps_put true (onwards d put.found.story) put.found.stand Bs put.last put.puts in
      subst (λ s. Went limit K [] s Failed d.old d.new) (sym is)
      (went_all limit K [] all Failed d.old d.new whole (subst (λ M. StepsThrough (Keeps limit) M all d.old d.new) put.found.keeps (put.stands told settled)) (put.calls told))

  stopped_went : (Bs : List Batch) (steps : Steps) (fault : ApplyFault) (Failed : Type 0) → (fault ≡ applying.DiskFault → Failed) → (Failed → fault ≡ applying.DiskFault) → AreStoppedBy limit d K Bs fault steps
      → Went limit K [] steps Failed d.old d.new
  stopped_went Bs steps fault Failed is so (stopped, same) =
      let all = steps_stopped (onwards d stopped.found.story) stopped.found.stand Bs stopped.last fault stopped.stops in
      subst (λ s. Went limit K [] s Failed d.old d.new) (sym same)
      (went_cut limit K [] all fault Failed d.old d.new is so (subst (λ M. StepsThrough (Keeps limit) M all d.old d.new) stopped.found.keeps (stopped.stands told settled))
      (omega (arith, begun)) (passes_of d stopped.stops.between all fault (stopped.calls told)))

  committed_went : (s : Status) (Bs : List Batch) (steps : Steps) → AreCommitted s limit d K Bs steps → Went limit K [] steps (s ≡ status.DiskFault) d.old d.new
  committed_went status.Done Bs steps are = put_went Bs steps _ (λ failed. cc) are
  committed_went (status.BookRefused fault) Bs steps are = put_went Bs steps _ (λ failed. cc) are
  committed_went (status.Usage fault) Bs steps are = put_went Bs steps _ (λ failed. cc) are
  committed_went (status.BuildRefused reason) Bs steps are = put_went Bs steps _ (λ failed. cc) are
  committed_went status.ReadFault Bs steps are = put_went Bs steps _ (λ failed. cc) are
  committed_went status.WriteFault Bs steps are = put_went Bs steps _ (λ failed. cc) are
  committed_went status.DiskFault Bs steps are = stopped_went Bs steps applying.DiskFault _ (λ is. refl) (λ so. refl) are
  committed_went (status.BadState offset) Bs steps are = put_went Bs steps _ (λ failed. cc) are
  committed_went (status.StateFull needed most) Bs steps are = stopped_went Bs steps (applying.Full needed most) _ (λ is. cc) (λ so. cc) are
  committed_went status.NoMemory Bs steps (inl put) = put_went Bs steps _ (λ failed. cc) put
  committed_went status.NoMemory Bs steps (inr (fault, other, stopped)) = stopped_went Bs steps fault _ (λ is. absurd (other is)) (λ so. cc) stopped
  committed_went status.ScriptTooLong Bs steps are = put_went Bs steps _ (λ failed. cc) are

-- ---- the lines of a session

-- the disk failed at a line
abbrev IsDiskEnd : Result (Unit {0}) SessionEnd → Type 0
IsDiskEnd (Err (session.Machine ending.DiskFault)) = Unit {0}
IsDiskEnd end = ⊥

went_replied : (limit : ℕ) (K L : AnyKept) (front : Steps) (Failed : Type 0) (old new : Story) → ¬ Failed → IsStretch limit K L front old new → Went limit K front [] Failed old new
went_replied limit K L front Failed old new whole s =
    went_all limit K front [] Failed old new whole (subst (λ xs. StepsThrough (Keeps limit) K xs old new) (sym (append-nil front)) s.through)
    (s.calls ∙ ap (λ xs. old.now.passed + calls_in xs) (sym (append-nil front)))

went_both : (limit : ℕ) (K L M : AnyKept) (front rest : Steps) (Failed : Type 0) (s mid t : Story) → ¬ Failed → IsStretch limit K L front s mid → IsStretch limit L M rest mid t → Went limit K front rest Failed s t
went_both limit K L M front rest Failed s mid t whole one two =
    let both = stretch_then limit K L M front rest s mid t one two in went_all limit K front rest Failed s t whole both.through both.calls

went_ended : (limit : ℕ) (K L : AnyKept) (front rest : Steps) (fault : ApplyFault) (Failed : Type 0) (s mid t : Story) → (fault ≡ applying.DiskFault → Failed) → (Failed → fault ≡ applying.DiskFault)
    → IsStretch limit K L front s mid → IsCut limit L rest fault mid t → Went limit K front rest Failed s t
went_ended limit K L front rest fault Failed s mid t is so one two =
    let both = cut_then limit K L front rest fault s mid t one two in
    went_cut limit K front rest fault Failed s t is so both.through (omega (arith, one.calls, two.later)) both.passes

is_disk_end : (end : StepEnd) → fault_of end ≡ applying.DiskFault → IsDiskEnd (Err (session.Machine end))
is_disk_end ending.DiskFault is = tt
is_disk_end (ending.StateFull needed most) is = cc
is_disk_end ending.NoMemory is = cc

of_disk_end : (end : StepEnd) → IsDiskEnd (Err (session.Machine end)) → fault_of end ≡ applying.DiskFault
of_disk_end ending.DiskFault is = refl
of_disk_end (ending.StateFull needed most) is = absurd is
of_disk_end ending.NoMemory is = absurd is

module _ (tells : Type 0) (told : tells) (limit : ℕ) (m m' : Scene) (stands : StandsOn limit m) (c : OverSource) (k : OverSink) (most : ℕ) (read : List ℕ) (Failed : Type 0) where
  session_went : (end : Result (Unit {0}) SessionEnd) → (IsDiskEnd end → Failed) → (Failed → IsDiskEnd end) → (ended : Ended (Answers tells) (Ends tells) m m' c k most read end)
      → Went limit (any_in m.stand) (steps_replied tells m m' c k most read end ended) (steps_unreplied tells m m' c k most read end ended) Failed m.story m'.story
  session_went (Ok done) is so (lines, said, all, goes, takes, whole) =
      went_replied limit (any_in m.stand) (any_in m'.stand) (steps_lines tells 1 m lines said m' goes) Failed m.story m'.story so (taken_lines tells told limit 1 m lines said m' goes stands).stretch
  session_went (Err session.ReadFault) is so (lines, said, rest, cut, goes, takes, whole) =
      went_replied limit (any_in m.stand) (any_in m'.stand) (steps_lines tells 1 m lines said m' goes) Failed m.story m'.story so (taken_lines tells told limit 1 m lines said m' goes stands).stretch
  session_went (Err session.TooLong) is so (lines, said, rest, cut, goes, takes, long, whole) =
      went_replied limit (any_in m.stand) (any_in m'.stand) (steps_lines tells 1 m lines said m' goes) Failed m.story m'.story so (taken_lines tells told limit 1 m lines said m' goes stands).stretch
  session_went (Err session.NoMemory) is so ((lines, said, bytes, rest, whole, lined, open_line, few, goes, takes), left) =
      went_replied limit (any_in m.stand) (any_in m'.stand) (steps_lines tells 1 m lines said m' goes) Failed m.story m'.story so (taken_lines tells told limit 1 m lines said m' goes stands).stretch
  session_went (Err session.WriteFault) is so ((lines, said, mid, bytes, reply, next, goes, answers, takes), left) =
      let front = taken_lines tells told limit 1 m lines said mid goes stands in
      let back = taken_answered tells told limit mid (length lines + 1) bytes reply m' answers front.stands in
      went_both limit (any_in m.stand) (any_in mid.stand) (any_in m'.stand) (steps_lines tells 1 m lines said mid goes) (steps_answered tells mid (length lines + 1) bytes reply m' answers) Failed m.story mid.story m'.story so front.stretch back.stretch
  session_went (Err (session.Machine end)) is so ((lines, said, mid, bytes, next, goes, ends, takes), left) =
      let front = taken_lines tells told limit 1 m lines said mid goes stands in
      went_ended limit (any_in m.stand) (any_in mid.stand) (steps_lines tells 1 m lines said mid goes) (steps_ended tells mid (length lines + 1) bytes end m' ends) (fault_of end) Failed m.story mid.story m'.story
      (λ same. is (is_disk_end end same)) (λ failed. of_disk_end end (so failed)) front.stretch (cut_ended tells told limit mid (length lines + 1) bytes end m' ends front.stands)

-- by the status

is_failed : (end : Result (Unit {0}) SessionEnd) → IsDiskEnd end → status_of end ≡ status.DiskFault
is_failed (Ok done) is = absurd is
is_failed (Err session.ReadFault) is = absurd is
is_failed (Err session.WriteFault) is = absurd is
is_failed (Err session.TooLong) is = absurd is
is_failed (Err session.NoMemory) is = absurd is
is_failed (Err (session.Machine ending.DiskFault)) is = refl
is_failed (Err (session.Machine (ending.StateFull needed most))) is = absurd is
is_failed (Err (session.Machine ending.NoMemory)) is = absurd is

of_failed : (end : Result (Unit {0}) SessionEnd) → status_of end ≡ status.DiskFault → IsDiskEnd end
of_failed (Ok done) is = cc
of_failed (Err session.ReadFault) is = cc
of_failed (Err session.WriteFault) is = cc
of_failed (Err session.TooLong) is = cc
of_failed (Err session.NoMemory) is = cc
of_failed (Err (session.Machine ending.DiskFault)) is = tt
of_failed (Err (session.Machine (ending.StateFull needed most))) is = cc
of_failed (Err (session.Machine ending.NoMemory)) is = cc

-- memory is wanted for a line that tells of no failed disk
not_short : (e : SessionEnd) → IsShort e → ¬ (IsDiskEnd (Err e))
not_short session.ReadFault short is = is
not_short session.WriteFault short is = is
not_short session.TooLong short is = is
not_short session.NoMemory short is = is
not_short (session.Machine ending.DiskFault) short is = short
not_short (session.Machine (ending.StateFull needed most)) short is = is
not_short (session.Machine ending.NoMemory) short is = is

ends_failed : (s : Status) (end : Result (Unit {0}) SessionEnd) → EndsSo s end → IsDiskEnd end → s ≡ status.DiskFault
ends_failed s end (inl same) is = same ∙ is_failed end is
ends_failed s end (inr (none, e, short, same)) is = absurd (not_short e short (subst IsDiskEnd same is))

failed_ends : (s : Status) (end : Result (Unit {0}) SessionEnd) → EndsSo s end → s ≡ status.DiskFault → IsDiskEnd end
failed_ends s end (inl same) failed = of_failed end (sym same ∙ failed)
failed_ends s end (inr (none, e, short, same)) failed = let both : status.NoMemory ≡ status.DiskFault = sym none ∙ failed in cc

module _ (limit : ℕ) (w : Asked) (c : OverSource) (d : OverDisk) (k : OverSink) (K : AnyKept) (s : Status) (b : Book) (told : d.tells) (settled : IsSettled d.old.now) where
  carries_went : (end : Result (Unit {0}) SessionEnd) → EndsSo s end → (is : Carries limit w c d k end b K)
      → Went limit K (steps_replied d.tells is.first is.last c k 67108864 is.goes.read end is.goes.ended) (steps_unreplied d.tells is.first is.last c k 67108864 is.goes.read end is.goes.ended) (s ≡ status.DiskFault) d.old d.new
  carries_went end so is =
      let front = steps_replied d.tells is.first is.last c k 67108864 is.goes.read end is.goes.ended in
      let back = steps_unreplied d.tells is.first is.last c k 67108864 is.goes.read end is.goes.ended in
      let Failed = s ≡ status.DiskFault in
      let on : IsKeptOn is.first.stand is.first.story = subst (λ (u : Story). IsKeptOn is.first.stand u) (sym (is.begins.story told)) (kept_on is.first.stand d.old (is.begins.loaded told) settled) in
      let stands : StandsOn limit is.first = record { on = on; limit_is = is.begins.limit_is } in
      let went = session_went d.tells told limit is.first is.last stands c k 67108864 is.goes.read Failed end (ends_failed s end so) (failed_ends s end so) is.goes.ended in
      let over : Went limit K front back Failed is.first.story is.last.story = subst (λ M. Went limit M front back Failed is.first.story is.last.story) is.begins.keeps went in
      subst (λ (u : Story). Went limit K front back Failed d.old u) is.story (subst (λ (u : Story). Went limit K front back Failed u is.last.story) (is.begins.story told) over)

  sat_went : (front rest : Steps) → AreSat s limit w c d k K front rest b → Went limit K front rest (s ≡ status.DiskFault) d.old d.new
  sat_went front rest (end, so, is, front_is, rest_is) =
      let back = steps_unreplied d.tells is.first is.last c k 67108864 is.goes.read end is.goes.ended in
      let went = subst (λ xs. Went limit K xs back (s ≡ status.DiskFault) d.old d.new) (sym front_is) (carries_went end so is) in
      subst (λ xs. Went limit K front xs (s ≡ status.DiskFault) d.old d.new) (sym rest_is) went

-- ---- a run

module _ (s : Status) (limit : ℕ) (a : Around) (K : AnyKept) (told : a.state.tells) (settled : IsSettled a.state.old.now) (begun : a.state.old.now.passed ≡ 0) (keeps : Keeps limit K a.state.old.now.reads) where
  abbrev Goes : Steps → Steps → Type 0
  Goes front rest = Went limit K front rest (s ≡ status.DiskFault) a.state.old a.state.new

  built_went : (w : Asked) (rest : Steps) (b : Book) → AreBuilt s limit w a.state K rest b → Goes [] rest
  built_went w rest b (answer, Bs, answers, are) = committed_went limit a.state K told settled begun s Bs rest are

  for_went : (to : Command) (w : Asked) (front rest : Steps) → AreStepsFor to s limit w a K front rest → Goes front rest
  for_went command.Build w front rest (none, (bytes, read, b, is, built)) = subst (λ xs. Goes xs rest) (sym none) (built_went w rest b built)
  for_went command.Generate w front rest (none, (b, is, built)) = subst (λ xs. Goes xs rest) (sym none) (built_went (for_last w) rest b built)
  for_went command.Clean w front rest (none, (B, clearing, are)) = subst (λ xs. Goes xs rest) (sym none) (committed_went limit a.state K told settled begun s (B ∷ []) rest are)
  for_went command.Session w front rest (bytes, read, b, is, sat) = sat_went limit w a.script a.state a.out K s b told settled front rest sat
  for_went command.Explain w front rest none = absurd none

  pub steps_went : (front rest : Steps) → AreSteps s limit a K front rest → Goes front rest
  steps_went front rest (inl (one, two, spared)) =
      subst (λ xs. Goes front xs) (sym two) (subst (λ xs. Goes xs []) (sym one) (went_none limit K (s ≡ status.DiskFault) a.state.old a.state.new settled keeps (spared told)))
  steps_went front rest (inr (w, asked, are)) = for_went w.command w front rest are

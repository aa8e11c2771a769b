-- A session that nothing hinders is done, or memory runs out.
use Rattle.std.proofs.Common.{◌≡◌, ℕ, ◌+◌, ◌≤◌, true, List, [], ◌∷◌, ◌++◌, length, Result, Ok, Err, refl, sym, ◌∙◌, ap, subst, inl, inr, arith}
use Rattle.carte_io.specs.Causes.{Rose}
use Rattle.carte_io.specs.Streams.{SinkState, SourceState}
use Rattle.carte_record.specs.declared.batch.Batch.{Batch}
use Rattle.carte_session.specs.Lines.{IsNext, lines_of}
use Rattle.carte_session.specs.Session.{Goes, IsSession}
use Rattle.carte_session.specs.declared.end.SessionEnd.{SessionEnd}
use Rattle.carte_session.specs.declared.end.SessionEnd.TheVariants.{Machine, NoMemory, ReadFault, TooLong, WriteFault}
use Rattle.carte_session.specs.declared.end.StepEnd.{StepEnd}
use Rattle.carte_session.specs.declared.end.StepEnd.TheVariants as line_end
use Rattle.carte_session.proofs.LineLemmas.{next_is}
use Rattle.carte_session.proofs.SessionLaws.{too_long_is}
use Rattle.carte_words.specs.Lines.{Means}
use Rattle.carte_words.specs.declared.line.Line.{Line}
use Rattle.carte_words.specs.declared.line.Line.TheVariants as line
use Rattle.carte_engine.specs.Clearing.{clearing}
use Rattle.carte_engine.specs.Committing.{FitAll}
use Rattle.carte_engine.proofs.Several.{fit_not_full, puts_faults, stops_rose}
use Rattle.carte_shell.specs.Answers.{Answers, Brings, Ends, Obeys}
use Rattle.carte_shell.specs.Commits.{Stops, disk_between}
use Rattle.carte_shell.specs.Lasting.{AllFit, IsDoneOrShort, IsWithin, SessionIsDone}
use Rattle.carte_shell.specs.Replies.{Said}
use Rattle.carte_shell.specs.Scenes.{Scene}

module _ (tells : Type 0) where
  -- a line that is answered leaves the disk's failures as they were
  obeyed : (m m' : Scene) (l : Line) (reply : Said) → Obeys tells m l reply m' → m'.faults ≡ m.faults
  obeyed m m' line.Nothing reply obeys = ap (λ (x : Scene). x.faults) obeys.1
  obeyed m m' (line.Set k v) reply obeys = ap (λ (x : Scene). x.faults) obeys.1
  obeyed m m' (line.Build targets) reply obeys = puts_faults true (disk_between tells m m') m.stand obeys.1 m'.stand obeys.4.commits
  obeyed m m' (line.Explain targets) reply obeys = ap (λ (x : Scene). x.faults) obeys.1
  obeyed m m' line.Clean reply obeys = puts_faults true (disk_between tells m m') m.stand (clearing m.stand ∷ []) m'.stand obeys.1.commits

  answered : (m m' : Scene) (n : ℕ) (bytes text : List ℕ) → Answers tells m n bytes text m' → m'.faults ≡ m.faults
  answered m m' n bytes text (inl stray) = ap (λ (x : Scene). x.faults) stray.2
  answered m m' n bytes text (inr told) = obeyed m m' told.0 told.2 told.4

  all_answered : (n : ℕ) (m m' : Scene) (lines : List (List ℕ)) (said : List ℕ) → Goes (Answers tells) n m lines said m' → m'.faults ≡ m.faults
  all_answered n m m' [] said goes = ap (λ (x : Scene). x.faults) goes.0
  all_answered n m m' (bytes ∷ lines) said goes = all_answered (n + 1) goes.0 m' lines goes.2 goes.4 ∙ answered m goes.0 n bytes goes.1 goes.3

  -- a line isn't answered where the disk failed, where there is no room, or where memory is lacking
  stopped : (m m' : Scene) (Bs : List Batch) (end : StepEnd) → Stops tells m m' Bs end → ¬ (Rose m.faults m'.faults) → FitAll true m.stand Bs → IsDoneOrShort (Err (Machine end))
  stopped m m' Bs line_end.NoMemory stops none fits = tt
  stopped m m' Bs line_end.DiskFault stops none fits = none (stops_rose (disk_between tells m m') m.stand Bs m'.stand stops.commits)
  stopped m m' Bs (line_end.StateFull needed limit) stops none fits = fit_not_full (disk_between tells m m') m.stand m'.stand Bs needed limit stops.commits fits

  not_answered : (m m' : Scene) (n : ℕ) (bytes : List ℕ) (end : StepEnd) → Ends tells m n bytes end m' → ¬ (Rose m.faults m'.faults)
      → ((l : Line) (Bs : List Batch) → Means m.book.kind bytes l → Brings m l Bs → FitAll true m.stand Bs) → IsDoneOrShort (Err (Machine end))
  not_answered m m' n bytes end (inl none) unfailed fits = subst (λ (e : StepEnd). IsDoneOrShort (Err (Machine e))) (sym none.0) tt
  not_answered m m' n bytes end (inr (l, means, inl none)) unfailed fits = subst (λ (e : StepEnd). IsDoneOrShort (Err (Machine e))) (sym none.0) tt
  not_answered m m' n bytes end (inr (l, means, inr (Bs, brings, stops))) unfailed fits = stopped m m' Bs end stops unfailed (fits l Bs means brings)

  -- whatever fails, there was room
  stopped_within : (m m' : Scene) (Bs : List Batch) (end : StepEnd) → Stops tells m m' Bs end → FitAll true m.stand Bs → IsWithin (Err (Machine end))
  stopped_within m m' Bs line_end.NoMemory stops fits = tt
  stopped_within m m' Bs line_end.DiskFault stops fits = tt
  stopped_within m m' Bs (line_end.StateFull needed limit) stops fits = fit_not_full (disk_between tells m m') m.stand m'.stand Bs needed limit stops.commits fits

  ends_within : (m m' : Scene) (n : ℕ) (bytes : List ℕ) (end : StepEnd) → Ends tells m n bytes end m'
      → ((l : Line) (Bs : List Batch) → Means m.book.kind bytes l → Brings m l Bs → FitAll true m.stand Bs) → IsWithin (Err (Machine end))
  ends_within m m' n bytes end (inl none) fits = subst (λ (e : StepEnd). IsWithin (Err (Machine e))) (sym none.0) tt
  ends_within m m' n bytes end (inr (l, means, inl none)) fits = subst (λ (e : StepEnd). IsWithin (Err (Machine e))) (sym none.0) tt
  ends_within m m' n bytes end (inr (l, means, inr (Bs, brings, stops))) fits = stopped_within m m' Bs end stops (fits l Bs means brings)

-- the next line of what was read, where the end is told
told_next : (read line : List ℕ) (lines : List (List ℕ)) (most : ℕ) (Told AtEnd : Type 0) → Told → IsNext read lines line most (Told → AtEnd) → IsNext read lines line most AtEnd
told_next read line lines most Told AtEnd told next = (
  next.0,
  next.1,
  elim next.2 [
    | inl whole ↦ inl whole
    | inr last ↦ inr (last.0, last.1, last.2 told)
  ],
)

-- the line at which the machine ended a session whose script is told, and in which scene
record EndsAt (tells : Type 0) (m m' : Scene) (end : StepEnd) : Type 0 where
  mid : Scene
  same : mid.faults ≡ m.faults
  number : ℕ
  bytes : List ℕ
  ends : Ends tells mid number bytes end m'
  room : (l : Line) (Bs : List Batch) → Means mid.book.kind bytes l → Brings mid l Bs → FitAll true mid.stand Bs

module _ (tells source_tells sink_tells : Type 0) (m m' : Scene) (script left : SourceState) (k k' : SinkState) (limit : ℕ) where
  abbrev Sits : Result (Unit {0}) SessionEnd → Type 0
  Sits result = IsSession (Answers tells) (Ends tells) m m' (record { tells = source_tells; old = script; new = left }) (record { tells = sink_tells; old = k; new = k' }) limit result

  ends_at : (end : StepEnd) → Sits (Err (Machine end)) → source_tells → AllFit tells m (lines_of script.left) → EndsAt tells m m' end
  ends_at end is told fits =
      let stopped = is.ended.0 in
      let lines = stopped.0 in
      let mid = stopped.2 in
      let bytes = stopped.3 in
      let next = next_is is.read left.left bytes lines left.last (told_next is.read bytes lines left.last source_tells (left.left ≡ []) told stopped.4) in
      let whole : lines_of script.left ≡ lines ++ bytes ∷ next.0 = ap lines_of (is.ended.1 told) ∙ next.1 in
      record {
        mid = mid;
        same = all_answered tells 1 m mid lines stopped.1 stopped.5;
        number = length lines + 1;
        bytes = bytes;
        ends = stopped.6;
        room = λ l Bs means brings. fits lines next.0 bytes stopped.1 mid l Bs whole stopped.5 means brings;
      }

  -- the script of a session within the limit isn't too long, and where there is room the file isn't full, whatever fails
  pub session_within : (result : Result (Unit {0}) SessionEnd) → Sits result → source_tells → length script.left ≤ limit → AllFit tells m (lines_of script.left) → IsWithin result
  session_within (Ok done) is told within fits = tt
  session_within (Err NoMemory) is told within fits = tt
  session_within (Err ReadFault) is told within fits = tt
  session_within (Err WriteFault) is told within fits = tt
  session_within (Err TooLong) is told within fits =
      let longer = too_long_is (Answers tells) (Ends tells) source_tells sink_tells m m' script left k k' limit is told in omega arith
  session_within (Err (Machine end)) is told within fits = let at = ends_at end is told fits in ends_within tells at.mid m' at.number at.bytes end at.ends at.room

pub session_done : (tells source_tells sink_tells : Type 0) → SessionIsDone tells source_tells sink_tells
session_done tells source_tells sink_tells m m' script left k k' limit (Ok done) is told within fits none = tt
session_done tells source_tells sink_tells m m' script left k k' limit (Err NoMemory) is told within fits none = tt
session_done tells source_tells sink_tells m m' script left k k' limit (Err ReadFault) is told within fits none = none.source (is.source_cause.failed refl)
session_done tells source_tells sink_tells m m' script left k k' limit (Err WriteFault) is told within fits none = none.sink (is.sink_cause.failed refl)
session_done tells source_tells sink_tells m m' script left k k' limit (Err TooLong) is told within fits none = session_within tells source_tells sink_tells m m' script left k k' limit (Err TooLong) is told within fits
session_done tells source_tells sink_tells m m' script left k k' limit (Err (Machine end)) is told within fits none =
    let at = ends_at tells source_tells sink_tells m m' script left k k' limit end is told fits in
    not_answered tells at.mid m' at.number at.bytes end at.ends (subst (λ (n : ℕ). ¬ (Rose n m'.faults)) (sym at.same) none.disk) at.room

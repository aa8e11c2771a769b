-- A session seen through a view.
use Rattle.std.proofs.Common.{ℕ, ◌+◌, List, [], ◌∷◌, Result, Ok, Err, ap}
use Rattle.carte_session.specs.Around.{OverSink, OverSource}
use Rattle.carte_session.specs.Laws.{SessionSeen}
use Rattle.carte_session.specs.Session.{Ended, Goes}
use Rattle.carte_session.specs.declared.end.SessionEnd.{SessionEnd}
use Rattle.carte_session.specs.declared.end.SessionEnd.TheVariants.{Machine, NoMemory, ReadFault, TooLong, WriteFault}
use Rattle.carte_session.specs.declared.end.StepEnd.{StepEnd}

module _ {M N : Type 0} (view : M → N) (Answers : N → ℕ → List ℕ → List ℕ → N → Type 0) (Ends : N → ℕ → List ℕ → StepEnd → N → Type 0) where
  abbrev AnswersSeen : M → ℕ → List ℕ → List ℕ → M → Type 0
  AnswersSeen m n line reply m' = Answers (view m) n line reply (view m')

  abbrev EndsSeen : M → ℕ → List ℕ → StepEnd → M → Type 0
  EndsSeen m n line end m' = Ends (view m) n line end (view m')

  goes_seen : (n : ℕ) (m m' : M) (lines : List (List ℕ)) (said : List ℕ) → Goes AnswersSeen n m lines said m' → Goes Answers n (view m) lines said (view m')
  goes_seen n m m' [] said goes = (ap view goes.0, goes.1)
  goes_seen n m m' (line ∷ lines) said goes = (view goes.0, goes.1, goes.2, goes.3, goes_seen (n + 1) goes.0 m' lines goes.2 goes.4, goes.5)

  ended_seen : (m m' : M) (s : OverSource) (k : OverSink) (limit : ℕ) (read : List ℕ) (result : Result (Unit {0}) SessionEnd)
      → Ended AnswersSeen EndsSeen m m' s k limit read result → Ended Answers Ends (view m) (view m') s k limit read result
  ended_seen m m' s k limit read (Ok done) (lines, said, all, goes, takes, whole) = (lines, said, all, goes_seen 1 m m' lines said goes, takes, whole)
  ended_seen m m' s k limit read (Err ReadFault) (lines, said, tail, cut, goes, takes, whole) = (lines, said, tail, cut, goes_seen 1 m m' lines said goes, takes, whole)
  ended_seen m m' s k limit read (Err TooLong) (lines, said, tail, cut, goes, takes, long, whole) = (lines, said, tail, cut, goes_seen 1 m m' lines said goes, takes, long, whole)
  ended_seen m m' s k limit read (Err WriteFault) ((lines, said, mid, line, reply, next, goes, one, takes), rest) =
      ((lines, said, view mid, line, reply, next, goes_seen 1 m mid lines said goes, one, takes), rest)
  ended_seen m m' s k limit read (Err NoMemory) ((lines, said, line, tail, is, lined, open_line, few, goes, takes), rest) =
      ((lines, said, line, tail, is, lined, open_line, few, goes_seen 1 m m' lines said goes, takes), rest)
  ended_seen m m' s k limit read (Err (Machine end)) ((lines, said, mid, line, next, goes, one, takes), rest) =
      ((lines, said, view mid, line, next, goes_seen 1 m mid lines said goes, one, takes), rest)

  pub session_seen : (source_tells sink_tells : Type 0) → SessionSeen view Answers Ends source_tells sink_tells
  session_seen source_tells sink_tells m m' script left k k' limit result is = record {
    read = is.read;
    within = is.within;
    ended = ended_seen m m' (record { tells = source_tells; old = script; new = left }) (record { tells = sink_tells; old = k; new = k' }) limit is.read result is.ended;
    source_cause = is.source_cause;
    sink_cause = is.sink_cause;
  }

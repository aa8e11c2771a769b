-- The commits of a run as steps: how many writing calls each makes, and what is kept behind it.
use Rattle.std.specs.Prelude.{ℕ, ◌≡◌, ◌⊎◌, ◌+◌, true, List, [], ◌∷◌, ◌++◌, length, Result, Ok, Err}
use Rattle.std.proofs.Common.{inl, inr}
use Rattle.carte_io.specs.Stations.{Step}
use Rattle.carte_book.specs.Book.{Book}
use Rattle.carte_record.specs.declared.batch.Batch.{Batch}
use Rattle.carte_session.specs.Session.{Ended, Goes}
use Rattle.carte_session.specs.declared.end.SessionEnd.{SessionEnd}
use Rattle.carte_session.specs.declared.end.SessionEnd.TheVariants as session
use Rattle.carte_session.specs.declared.end.StepEnd.{StepEnd}
use Rattle.carte_state.specs.declared.fault.ApplyFault.{ApplyFault}
use Rattle.carte_state.specs.declared.fault.ApplyFault.TheVariants as applying
use Rattle.carte_words.specs.declared.line.Line.{Line}
use Rattle.carte_words.specs.declared.line.Line.TheVariants as line
use Rattle.carte_words.specs.declared.words.Command.{Command}
use Rattle.carte_words.specs.declared.words.Command.TheVariants as command
use Rattle.carte_words.specs.declared.words.Words.{Words as Asked}
use Rattle.carte_engine.specs.declared.answer.Answer.{Answer}
use Rattle.carte_engine.specs.Clearing.{clearing}
use Rattle.carte_engine.specs.Committing.{behind as onwards, steps_all, steps_put, steps_stopped}
use Rattle.carte_shell.specs.Answers.{Answers as AnswersLine, Breaks, Ends as EndsAt, Obeys}
use Rattle.carte_shell.specs.Commits.{disk_between}
use Rattle.carte_shell.specs.Replies.{Said}
use Rattle.carte_shell.specs.Scenes.{Scene}
use Rattle.carte_shell.specs.Stopping.{fault_of}
use Rattle.carte_report.specs.declared.status.Status.{Status}
use Rattle.carte_report.specs.declared.status.Status.TheVariants.{DiskFault, StateFull, NoMemory}
use Rattle.carte_top.specs.Around.{Around, OverDisk, OverSink, OverSource}
use Rattle.carte_top.specs.Found.{Answers, ArePut, Carries, Holds, IsClearing, IsStopped, Makes, for_last}
use Rattle.carte_top.specs.Outcome.{Asks, IsShort, IsSpared, status_of}
use Rattle.carte_state.specs.Versions.{AnyKept}

abbrev pub Steps : Type 0
Steps = List (Step AnyKept)

-- ---- the batches of a build, or of a clearing

-- all of them were put
abbrev pub ArePutBy : ℕ → OverDisk → AnyKept → List Batch → Steps → Type 0
ArePutBy limit d K Bs steps = (put : ArePut limit d K Bs) × (steps ≡ steps_put true (onwards d put.found.story) put.found.stand Bs put.last put.puts)

-- those in front were, and the next one was not, for this reason; of its step some calls may have passed, where the disk failed
abbrev pub AreStoppedBy : ℕ → OverDisk → AnyKept → List Batch → ApplyFault → Steps → Type 0
AreStoppedBy limit d K Bs fault steps =
    (stopped : IsStopped limit d K Bs fault) × (steps ≡ steps_stopped (onwards d stopped.found.story) stopped.found.stand Bs stopped.last fault stopped.stops)

-- By how the run ended. Memory may also be wanted behind all commits, or behind a batch for which there was no room, for the line that tells so.
abbrev pub AreCommitted : Status → ℕ → OverDisk → AnyKept → List Batch → Steps → Type 0
AreCommitted DiskFault limit d K Bs steps = AreStoppedBy limit d K Bs applying.DiskFault steps
AreCommitted (StateFull needed most) limit d K Bs steps = AreStoppedBy limit d K Bs (applying.Full needed most) steps
AreCommitted NoMemory limit d K Bs steps = ArePutBy limit d K Bs steps ⊎ ((fault : ApplyFault) × ¬ (fault ≡ applying.DiskFault) × AreStoppedBy limit d K Bs fault steps)
AreCommitted status limit d K Bs steps = ArePutBy limit d K Bs steps

-- those of a build that answers so
abbrev pub AreBuilt : Status → ℕ → Asked → OverDisk → AnyKept → Steps → Book → Type 0
AreBuilt status limit w d K steps b = (a : Answer) × (Bs : List Batch) × Answers w b K a Bs × AreCommitted status limit d K Bs steps

-- ---- the lines of a session

module _ (tells : Type 0) where
  abbrev pub steps_obeyed : (m : Scene) (l : Line) (reply : Said) (m' : Scene) → Obeys tells m l reply m' → Steps
  steps_obeyed m line.Nothing reply m' is = []
  steps_obeyed m (line.Set k v) reply m' is = []
  steps_obeyed m (line.Build targets) reply m' (a, Bs, plans, told, puts) = steps_all (disk_between tells m m') m.stand m'.stand Bs (Ok tt) puts.commits
  steps_obeyed m (line.Explain targets) reply m' is = []
  steps_obeyed m line.Clean reply m' (told, puts, none) = steps_all (disk_between tells m m') m.stand m'.stand (clearing m.stand ∷ []) (Ok tt) puts.commits

  abbrev pub steps_answered : (m : Scene) (n : ℕ) (bytes text : List ℕ) (m' : Scene) → AnswersLine tells m n bytes text m' → Steps
  steps_answered m n bytes text m' (inl stray) = []
  steps_answered m n bytes text m' (inr (l, means, reply, told, obeys)) = steps_obeyed m l reply m' obeys

  -- of lines that are answered, one after another
  abbrev pub steps_lines : (n : ℕ) (m : Scene) (lines : List (List ℕ)) (said : List ℕ) (m' : Scene) → Goes (AnswersLine tells) n m lines said m' → Steps
  steps_lines n m [] said m' none = []
  steps_lines n m (bytes ∷ lines) said m' (mid, reply, later, answers, goes, is) = steps_answered m n bytes reply mid answers ++ steps_lines (n + 1) mid lines later m' goes

  abbrev pub steps_broken : (m : Scene) (l : Line) (end : StepEnd) (m' : Scene) → Breaks tells m l end m' → Steps
  steps_broken m l end m' (inl short) = []
  steps_broken m l end m' (inr (Bs, brings, stops)) = steps_all (disk_between tells m m') m.stand m'.stand Bs (Err (fault_of end)) stops.commits

  -- of a line that isn't
  abbrev pub steps_ended : (m : Scene) (n : ℕ) (bytes : List ℕ) (end : StepEnd) (m' : Scene) → EndsAt tells m n bytes end m' → Steps
  steps_ended m n bytes end m' (inl short) = []
  steps_ended m n bytes end m' (inr (l, means, breaks)) = steps_broken m l end m' breaks

  module _ (m m' : Scene) (c : OverSource) (k : OverSink) (limit : ℕ) (read : List ℕ) where
    -- up to the last whole reply
    abbrev pub steps_replied : (end : Result (Unit {0}) SessionEnd) → Ended (AnswersLine tells) (EndsAt tells) m m' c k limit read end → Steps
    steps_replied (Ok done) (lines, said, all, goes, takes, told) = steps_lines 1 m lines said m' goes
    steps_replied (Err session.ReadFault) (lines, said, rest, cut, goes, takes, told) = steps_lines 1 m lines said m' goes
    steps_replied (Err session.TooLong) (lines, said, rest, cut, goes, takes, long, told) = steps_lines 1 m lines said m' goes
    steps_replied (Err session.WriteFault) ((lines, said, mid, bytes, reply, next, goes, answers, takes), told) = steps_lines 1 m lines said mid goes
    steps_replied (Err (session.Machine end)) ((lines, said, mid, bytes, next, goes, ends, takes), told) = steps_lines 1 m lines said mid goes
    steps_replied (Err session.NoMemory) ((lines, said, bytes, rest, is, lined, open_line, most, goes, takes), told) = steps_lines 1 m lines said m' goes

    -- and behind it
    abbrev pub steps_unreplied : (end : Result (Unit {0}) SessionEnd) → Ended (AnswersLine tells) (EndsAt tells) m m' c k limit read end → Steps
    steps_unreplied (Ok done) is = []
    steps_unreplied (Err session.ReadFault) is = []
    steps_unreplied (Err session.TooLong) is = []
    steps_unreplied (Err session.WriteFault) ((lines, said, mid, bytes, reply, next, goes, answers, takes), told) = steps_answered mid (length lines + 1) bytes reply m' answers
    steps_unreplied (Err (session.Machine end)) ((lines, said, mid, bytes, next, goes, ends, takes), told) = steps_ended mid (length lines + 1) bytes end m' ends
    steps_unreplied (Err session.NoMemory) is = []

-- the session came to this end, or memory was wanted for the line that tells of it
abbrev pub EndsSo : Status → Result (Unit {0}) SessionEnd → Type 0
EndsSo status end = (status ≡ status_of end) ⊎ ((status ≡ NoMemory) × (e : SessionEnd) × IsShort e × (end ≡ Err e))

abbrev pub AreSat : Status → ℕ → Asked → OverSource → OverDisk → OverSink → AnyKept → Steps → Steps → Book → Type 0
AreSat status limit w c d k K front rest b = (end : Result (Unit {0}) SessionEnd) × EndsSo status end × (carries : Carries limit w c d k end b K)
    × (front ≡ steps_replied d.tells carries.first carries.last c k 67108864 carries.goes.read end carries.goes.ended)
    × (rest ≡ steps_unreplied d.tells carries.first carries.last c k 67108864 carries.goes.read end carries.goes.ended)

-- ---- a run

-- The commits up to the run's last whole reply, and those behind it. The reply of a build or of a clearing comes behind all of its commits; an explanation makes none.
abbrev pub AreStepsFor : Command → Status → ℕ → Asked → Around → AnyKept → Steps → Steps → Type 0
AreStepsFor command.Build status limit w a K front rest = (front ≡ []) × Holds w.kind a.book (AreBuilt status limit w a.state K rest)
AreStepsFor command.Generate status limit w a K front rest = (front ≡ []) × Makes w (AreBuilt status limit (for_last w) a.state K rest)
AreStepsFor command.Clean status limit w a K front rest = (front ≡ []) × ((B : Batch) × IsClearing K B × AreCommitted status limit a.state K (B ∷ []) rest)
AreStepsFor command.Session status limit w a K front rest = Holds w.kind a.book (AreSat status limit w a.script a.state a.out K front rest)
AreStepsFor command.Explain status limit w a K front rest = ⊥

-- none, where the run came to no commit, and wrote nothing
abbrev pub AreSteps : Status → ℕ → Around → AnyKept → Steps → Steps → Type 0
AreSteps status limit a K front rest = ((front ≡ []) × (rest ≡ []) × IsSpared a.state) ⊎ Asks a.words (λ w. AreStepsFor w.command status limit w a K front rest)

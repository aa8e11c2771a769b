-- From the last commits of a process to what a line does.
use Rattle.std.proofs.Common.{◌≡◌, ℕ, List, Result, Ok, Err, refl, inl}
use Rattle.std.specs.Prelude.{MatchResult}
use Rattle.carte_io.specs.Disk.{Story}
use Rattle.carte_engine.specs.Writing.{CommitsLast}
use Rattle.carte_engine.proofs.Several.{all_seen}
use Rattle.carte_record.specs.declared.batch.Batch.{Batch}
use Rattle.carte_session.specs.declared.end.StepEnd.{StepEnd}
use Rattle.carte_session.specs.declared.end.StepEnd.TheVariants.{NoMemory}
use Rattle.carte_state.specs.Around.{OverDisk}
use Rattle.carte_state.specs.States.{Stand}
use Rattle.carte_state.specs.declared.fault.ApplyFault.{ApplyFault}
use Rattle.carte_words.specs.declared.line.Line.{Line}
use Rattle.carte_words.specs.declared.line.Line.TheVariants as line
use Rattle.carte_shell.specs.Answers.{Breaks, Obeys, WorksOut}
use Rattle.carte_shell.specs.Commits.{Commits}
use Rattle.carte_shell.specs.Last.{Leads}
use Rattle.carte_shell.specs.Replies.{Said}
use Rattle.carte_shell.specs.Scenes.{Scene}
use Rattle.carte_shell.specs.Stopping.{fault_of}
use Rattle.carte_shell.proofs.Committing.{breaks}

module _ (m : Scene) (tells same : Type 0) (new : Story) (failed : ℕ) (Bs : List Batch) where
  abbrev disk : OverDisk
  disk = record { tells = tells; old = m.story; new = new; failed_before = m.faults; failed = failed; same = same }

  -- the scene behind the commits, with the state that they lead to
  abbrev left : Stand → Scene
  left s = record { choices = m.choices; book = m.book; stand = s; story = new; faults = failed }

  commits : (result : Result (Unit {0}) ApplyFault) (last : CommitsLast disk m.stand Bs result) → Commits tells m (left last.0) Bs result
  commits result last = record { choices = refl; book = refl; commits = all_seen disk m.stand last.0 Bs result last.1 }

  module _ (targets : List (List ℕ)) (reply : Said) (works : WorksOut m.choices m.stand m.book targets Bs reply) where
    pub built : CommitsLast disk m.stand Bs (Ok tt) → Leads new failed (Obeys tells m (line.Build targets) reply)
    built last = (left last.0, refl, refl, (works.0, Bs, works.1, works.2, commits (Ok tt) last))

    pub stopped : (end : StepEnd) → CommitsLast disk m.stand Bs (Err (fault_of end)) → Leads new failed (Breaks tells m (line.Build targets) end)
    stopped end last = (left last.0, refl, refl, breaks tells m (left last.0) (line.Build targets) Bs end (works.0, works.1) (commits (Err (fault_of end)) last))

-- what is done and leaves a whole scene
pub led : {T E : Type 0} (q : Result T E) (m' : Scene) (does : T → Scene → Type 0) (ends : E → Scene → Type 0)
    → MatchResult q (λ t. does t m') (λ end. ends end m') → MatchResult q (λ t. Leads m'.story m'.faults (does t)) (λ end. Leads m'.story m'.faults (ends end))
led (Ok t) m' does ends told = (m', refl, refl, told)
led (Err end) m' does ends told = (m', refl, refl, told)

-- where there was no memory all is as it was
pub lacks : {T : Type 0} (tells : Type 0) (m : Scene) (l : Line) (q : Result T StepEnd) (does : T → Type 0) → q ≡ Err NoMemory → MatchResult q does (λ end. Leads m.story m.faults (Breaks tells m l end))
lacks tells m l q does is = rw is (m, refl, refl, inl (refl, refl))

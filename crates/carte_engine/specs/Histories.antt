-- Builds one after another over one state, each committed whole, or in part where a crash cut it off.
use Rattle.std.specs.Prelude.{ℕ, List, [], ◌∷◌, ◌++◌, take}
use Rattle.carte_book.specs.Book.{Book}
use Rattle.carte_sound.specs.Base.{HasDistinctDigests}
use Rattle.carte_sound.specs.Held.{How}
use Rattle.carte_state.specs.Runs.{applied_to}
use Rattle.carte_state.specs.Versions.{AnyKept}
use Rattle.carte_engine.specs.declared.answer.Plan.{Plan}
use Rattle.carte_engine.specs.declared.scheduler.Scheduler.{Scheduler}
use Rattle.carte_engine.specs.Answers.{IsPlan}
use Rattle.carte_engine.specs.Versions.{IsSoundAny, Under}

-- a build, and how many of its batches were committed, from the first one on: of each all, or none
pub record Run : Type 0 where
  pub book : Book
  pub scheduler : Scheduler
  pub how : How
  pub targets : List (List ℕ)
  pub plan : Plan
  pub committed : ℕ

abbrev pub books_of : List Run → List Book
books_of [] = []
books_of (run ∷ runs) = run.book ∷ books_of runs

-- what is kept behind it
abbrev pub kept_behind : AnyKept → Run → AnyKept
kept_behind A run = applied_to A (take run.committed run.plan.batches.items)

abbrev pub kept_after : AnyKept → List Run → AnyKept
kept_after A [] = A
kept_after A (run ∷ runs) = kept_after (kept_behind A run) runs

-- the plan is one for what is kept, whatever history that is sound for, as the call that made it promises
abbrev pub IsPlanned : AnyKept → Run → Type 0
IsPlanned A run = Under A run.book (IsPlan run.scheduler run.how A run.book run.targets run.plan.batches.items run.plan.answer)

abbrev pub AreRuns : AnyKept → List Run → Type 0
AreRuns A [] = Unit {0}
AreRuns A (run ∷ runs) = IsPlanned A run × AreRuns (kept_behind A run) runs

-- the plan of the first of them is right over what is kept
abbrev pub IsRightNext : AnyKept → List Run → Type 0
IsRightNext A [] = Unit {0}
IsRightNext A (run ∷ runs) = IsPlan run.scheduler run.how A run.book run.targets run.plan.batches.items run.plan.answer

-- from what is kept, of either version and sound for the books before, behind each run what is kept is sound for the books so far, and the next answer is right
abbrev pub HistoryIsRight : Type 0
HistoryIsRight = (A : AnyKept) (H : List Book) (before after : List Run) → IsSoundAny A H → AreRuns A (before ++ after) → HasDistinctDigests (H ++ books_of (before ++ after))
    → IsSoundAny (kept_after A before) (H ++ books_of before) × IsRightNext (kept_after A before) after

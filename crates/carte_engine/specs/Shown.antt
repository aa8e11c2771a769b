-- What the answer of a plan shows, whatever is kept: an end of the scheduler's build.
use Rattle.std.specs.Prelude.{ℕ, ◌≡◌, ◌<◌, Bool, List}
use Rattle.carte_value.specs.Once.{Answers}
use Rattle.carte_value.specs.Truths.{Truth}
use Rattle.carte_effect.specs.Jobs.{Step}
use Rattle.carte_book.specs.Book.{Book}
use Rattle.carte_record.specs.Kept.{SomeKept}
use Rattle.carte_sound.specs.Begun.{Beginning, IsBeginning, begin}
use Rattle.carte_sound.specs.Held.{How}
use Rattle.carte_rebuild.specs.Ends.{HasTargets}
use Rattle.carte_rebuild.specs.declared.work.WorkEnd.{WorkEnd}
use Rattle.carte_topo.specs.Building.{FinishesAll}
use Rattle.carte_restart.specs.Schedule.{EndsByList}
use Rattle.carte_wave.specs.Waves.{EndsByWaves}
use Rattle.carte_engine.specs.Reckoned.{EndsBy, ShowsEnd}
use Rattle.carte_engine.specs.declared.answer.Answer.{Answer}
use Rattle.carte_engine.specs.declared.scheduler.Scheduler.{Scheduler}
use Rattle.carte_engine.specs.declared.scheduler.Scheduler.TheVariants.{Topological, Restarting, Suspending}

module _ {J : Type 0} (name : J → List ℕ) (started : J → Bool) (gives : J → Truth → Answers → Step → J → Type 0) (opens : SomeKept → List ℕ → J → Type 0) (h : How) (b : Book) (targets : List (List ℕ)) where
  -- What is known of the order of its turns: by order that there are as many as rules; where rules are begun anew, or several workers go in waves, its schedule.
  abbrev pub GoesBy : Scheduler → ℕ → SomeKept → WorkEnd → Type 0
  GoesBy Topological workers M end = FinishesAll b targets end
  GoesBy Restarting workers M end = EndsByList name started gives (opens M) h b M targets end
  GoesBy Suspending workers M end = 1 < workers → EndsByWaves name started gives (opens M) h b targets end

  -- a build of the scheduler, over what it begins with, ends so, in which each target is an input or finished where nothing is refused
  pub record IsEnd (s : Scheduler) (workers : ℕ) (M : SomeKept) (end : WorkEnd) : Type 0 where
    pub ends : EndsBy s h M b targets end
    pub goes : GoesBy s workers M end
    pub reaches : HasTargets b targets end

  -- there is such an end, over what a build of what is kept begins with, and the answer shows it
  pub record ShowsBuild (s : Scheduler) (workers : ℕ) (K : SomeKept) (a : Answer) : Type 0 where
    pub begun : Beginning
    pub begins : IsBeginning K b begun
    pub end : WorkEnd
    pub is_end : IsEnd s workers (begin K begun) end
    pub shows : ShowsEnd b targets end a

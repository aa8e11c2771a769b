-- What is known between the turns of a build, and what the ledger says of jobs that were given up.
use Rattle.std.specs.Prelude.{ℕ, ◌≡◌, ◌⊎◌, Bool, true, false, List, length, Some}
use Rattle.carte_value.specs.Truths.{Truth, Among, NoneTwice}
use Rattle.carte_effect.specs.Ledger.{Ledger}
use Rattle.carte_book.specs.Book.{Book}
use Rattle.carte_book.specs.Edits.{IsInput}
use Rattle.carte_book.specs.Needs.{needs}
use Rattle.carte_record.specs.Kept.{SomeKept}
use Rattle.carte_sound.specs.Base.{IsBase}
use Rattle.carte_sound.specs.Held.{How}
use Rattle.carte_note.specs.declared.finished.Finished.{Finished}
use Rattle.carte_note.specs.Right.{ran_in}
use Rattle.carte_rebuild.specs.declared.work.Work.{Work}
use Rattle.carte_rebuild.specs.Ends.{GivenUpAtMost}
use Rattle.carte_bench.specs.declared.slot.Slot.TheVariants.{Stopped}
use Rattle.carte_bench.specs.Spots.{Spots, is_done, job_in}
use Rattle.carte_bench.specs.Steps.{FitsOf}
use Rattle.carte_progress.specs.Progress.{IsAlong}
use Rattle.carte_progress.specs.Standing.{IsDemanded}

-- the key has waited for this name: a need of it and no input, which is done by now, or is the one that it waits for
pub record HasWaited {J : Type 0} (b : Book) (s : Spots J) (k n : List ℕ) : Type 0 where
  pub need : Among (needs b k) n
  pub no_input : ¬ (IsInput b n)
  pub now : (is_done (s n) ≡ true) ⊎ ((p : J) × (s k ≡ Some (Stopped p n)))

-- its task has at most as many starts without an end as there are names that it has waited for
pub record IsGivenUp {J : Type 0} (b : Book) (s : Spots J) (r : Ledger) (k : List ℕ) : Type 0 where
  pub names : List (List ℕ)
  pub once : NoneTwice names
  pub waited : (n : List ℕ) → Among names n → HasWaited b s k n
  pub bound : GivenUpAtMost r k (length names)

-- the tasks that ended are those that ran, and were started; what was started was demanded, and no job that is on the bench was started
pub record IsTallied {J : Type 0} (started : J → Bool) (b : Book) (s : Spots J) (ran : List (List ℕ)) (r : Ledger) : Type 0 where
  pub ends : r.ends ≡ ran
  pub each : (k : List ℕ) → Among r.ends k → Among r.starts k
  pub demanded : (k : List ℕ) → Among r.starts k → IsDemanded s k
  pub idle : (k : List ℕ) (j : J) → job_in (s k) ≡ Some j → started j ≡ false
  pub given_up : (k : List ℕ) → IsGivenUp b s r k

pub record IsRestarting {J : Type 0} (started : J → Bool) (fits : FitsOf J) (begun : Truth → List ℕ → J → Type 0) (h : How) (K : SomeKept) (b : Book) (begins : List (List ℕ)) (s : Spots J) (fs : List Finished) (r : Ledger) : Type 0 where
  pub along : IsAlong fits begun h K b begins s fs
  pub tallied : IsTallied started b s (ran_in fs) r

-- the same is known after it as before it
abbrev pub GoesOn : {J : Type 0} → (J → Bool) → FitsOf J → (Truth → List ℕ → J → Type 0) → How → SomeKept → Book → List (List ℕ) → Spots J → Spots J → Work → Work → Type 0
GoesOn started fits begun h K b begins old new w w' = (H : List Book) → IsBase K b H → IsRestarting started fits begun h K b begins old w.finished w.runs → IsRestarting started fits begun h K b begins new w'.finished w'.runs

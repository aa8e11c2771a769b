-- What is known of a build and of its ledger, where each key is started once.
use Rattle.std.specs.Prelude.{ℕ, ◌≡◌, ◌⊎◌, Bool, true, List, Some}
use Rattle.carte_value.specs.Truths.{Truth, Among, NoneTwice}
use Rattle.carte_effect.specs.Ledger.{Ledger}
use Rattle.carte_book.specs.Book.{Book}
use Rattle.carte_record.specs.Kept.{SomeKept}
use Rattle.carte_sound.specs.Held.{How}
use Rattle.carte_note.specs.declared.finished.Finished.{Finished}
use Rattle.carte_note.specs.Right.{ran_in}
use Rattle.carte_progress.specs.Progress.{IsAlong}
use Rattle.carte_bench.specs.Spots.{Spots, job_in}
use Rattle.carte_bench.specs.Steps.{FitsOf}

-- its task was started, and hasn't ended
abbrev pub IsRunning : {J : Type 0} → (J → Bool) → Spots J → List ℕ → Type 0
IsRunning {J = J} started s k = (j : J) × (job_in (s k) ≡ Some j) × (started j ≡ true)

-- the tasks that ended are those that ran, and each that was started has ended or is running
pub record IsCounted {J : Type 0} (started : J → Bool) (s : Spots J) (ran : List (List ℕ)) (r : Ledger) : Type 0 where
  pub ends : r.ends ≡ ran
  pub once : NoneTwice r.starts
  pub only : (k : List ℕ) → Among r.starts k → Among ran k ⊎ IsRunning started s k
  pub each : (k : List ℕ) → Among ran k ⊎ IsRunning started s k → Among r.starts k

pub record IsGoing {J : Type 0} (started : J → Bool) (fits : FitsOf J) (begun : Truth → List ℕ → J → Type 0) (h : How) (K : SomeKept) (b : Book) (targets : List (List ℕ)) (s : Spots J) (fs : List Finished) (r : Ledger) : Type 0 where
  pub along : IsAlong fits begun h K b targets s fs
  pub counted : IsCounted started s (ran_in fs) r

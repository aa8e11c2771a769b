-- What is known of a build in progress, over what it may rely on.
use Rattle.std.specs.Prelude.{ℕ, ◌≡◌, true, List, [], Some}
use Rattle.carte_value.specs.Truths.{Truth, Extends, Among, NoneTwice}
use Rattle.carte_book.specs.Book.{Book}
use Rattle.carte_record.specs.Kept.{SomeKept}
use Rattle.carte_sound.specs.Finished.{AreFinished}
use Rattle.carte_sound.specs.Held.{How, IsFollowed}
use Rattle.carte_sound.specs.Treated.{IsTreated}
use Rattle.carte_note.specs.declared.finished.Finished.{Finished}
use Rattle.carte_note.specs.Right.{AreRight, finishes_of, keys_in}
use Rattle.carte_rebuild.specs.declared.work.Work.{Work}
use Rattle.carte_rebuild.specs.Goes.{AreThere, AreThereBefore}
use Rattle.carte_bench.specs.declared.slot.Slot.{Slot}
use Rattle.carte_bench.specs.declared.slot.Slot.TheVariants.{Stopped}
use Rattle.carte_bench.specs.Spots.{Spots, is_done, job_in, seen_in}
use Rattle.carte_bench.specs.Steps.{FitsOf, IsCore}
use Rattle.carte_bench.specs.Keys.{AreKeyed}

-- the job was driven over parts of what is done
abbrev pub IsBegun : {J : Type 0} → (Truth → List ℕ → J → Type 0) → Book → Spots J → List ℕ → J → Type 0
IsBegun begun b s k j = (t : Truth) × Extends t (seen_in b s) × begun t k j

-- what was demanded is treated; the needs of what is done are there, and those of what waits but for the one that it waits for
pub record IsKnown {J : Type 0} (fits : FitsOf J) (begun : Truth → List ℕ → J → Type 0) (h : How) (K : SomeKept) (b : Book) (targets : List (List ℕ)) (s : Spots J) : Type 0 where
  pub core : IsCore fits b s
  pub jobs : (k : List ℕ) (j : J) → job_in (s k) ≡ Some j → IsBegun begun b s k j
  pub treated : (k : List ℕ) (x : Slot J) → s k ≡ Some x → IsTreated h K b targets k
  pub stops : (k n : List ℕ) (p : J) → s k ≡ Some (Stopped p n) → IsFollowed h K b k × AreThereBefore b (seen_in b s) k n
  pub done : (k : List ℕ) → is_done (s k) ≡ true → IsFollowed h K b k → AreThere b (seen_in b s) k

-- exactly what is done is finished, rightly, once, and in order
pub record AreListed {J : Type 0} (h : How) (K : SomeKept) (b : Book) (s : Spots J) (fs : List Finished) : Type 0 where
  pub right : AreRight h K b fs
  pub order : AreFinished h b K [] (finishes_of fs)
  pub once : NoneTwice (keys_in fs)
  pub listed : (k : List ℕ) → is_done (s k) ≡ true → Among (keys_in fs) k
  pub only : (k : List ℕ) → Among (keys_in fs) k → is_done (s k) ≡ true

-- whatever is kept: each job is one of its key, and what is done is finished with its own
pub record HasDone {J : Type 0} (keyed : J → List ℕ → Type 0) (s : Spots J) (fs : List Finished) : Type 0 where
  pub keys : AreKeyed keyed s
  pub listed : (k : List ℕ) → is_done (s k) ≡ true → Among (keys_in fs) k

-- so it is after it where it was so before it
abbrev pub StaysDone : {J : Type 0} → (J → List ℕ → Type 0) → Spots J → Spots J → Work → Work → Type 0
StaysDone keyed old new w w' = HasDone keyed old w.finished → HasDone keyed new w'.finished

-- what is known, and what is finished
pub record IsAlong {J : Type 0} (fits : FitsOf J) (begun : Truth → List ℕ → J → Type 0) (h : How) (K : SomeKept) (b : Book) (targets : List (List ℕ)) (s : Spots J) (fs : List Finished) : Type 0 where
  pub known : IsKnown fits begun h K b targets s
  pub finished : AreListed h K b s fs

-- How a name is demanded, and what a stop is.
use Rattle.std.specs.Prelude.{ℕ, ◌≡◌, ◌⊎◌, Bool, true, false, List, [], ◌∷◌, ◌++◌, Some, None}
use Rattle.carte_book.specs.Book.{Book, content}
use Rattle.carte_book.specs.Needs.{IsRule}
use Rattle.carte_effect.specs.declared.look.Stuck.{Stuck}
use Rattle.carte_effect.specs.declared.look.Stuck.TheVariants.{NotDone, Missing}
use Rattle.carte_effect.specs.declared.outcome.Made.{Made}
use Rattle.carte_sound.specs.Held.{How}
use Rattle.carte_note.specs.declared.finished.Finished.{Finished}
use Rattle.carte_rebuild.specs.Finishes.{FinishesRight}
use Rattle.carte_bench.specs.declared.slot.Slot.TheVariants.{Ready, Stopped}
use Rattle.carte_bench.specs.Spots.{Spots, PutAt, IsSame, is_done}
use Rattle.carte_progress.specs.Standing.{IsDemanded}

-- a rule that wasn't demanded
abbrev pub IsFreshRule : {J : Type 0} → Book → Spots J → List ℕ → Bool → Type 0
IsFreshRule b s n true = IsRule b n × (s n ≡ None)
IsFreshRule b s n false = IsRule b n → IsDemanded s n

-- what isn't done is a rule, and what is missing has nothing
abbrev pub IsStopIn : Book → Stuck → Type 0
IsStopIn b (NotDone n) = IsRule b n
IsStopIn b (Missing n) = content b n ≡ None

-- a new job of it stands on the bench, and it goes before the path
pub record Demands {J : Type 0} (name : J → List ℕ) (started : J → Bool) (begins : List ℕ → J → Type 0) (b : Book) (old new : Spots J) (path path' : List (List ℕ)) (n : List ℕ) : Type 0 where
  pub fresh : IsFreshRule b old n true
  pub job : J
  pub begun : begins n job
  pub named : name job ≡ n
  pub idle : started job ≡ false
  pub put : PutAt old new n (Ready job)
  pub path_is : path' ≡ n ∷ path

-- nothing was demanded, and the path is dropped
abbrev pub Leaves : {J : Type 0} → Book → Spots J → Spots J → List (List ℕ) → List ℕ → Type 0
Leaves b old new path' n = IsFreshRule b old n false × IsSame old new × (path' ≡ [])

abbrev pub Opens : {J : Type 0} → (J → List ℕ) → (J → Bool) → (List ℕ → J → Type 0) → Book → Spots J → Spots J → List (List ℕ) → List (List ℕ) → List ℕ → Type 0
Opens name started begins b old new path path' n = Demands name started begins b old new path path' n ⊎ Leaves b old new path' n

-- the key's job waits for this name, which isn't done
abbrev pub WaitsAt : {J : Type 0} → Spots J → List ℕ → List ℕ → Type 0
WaitsAt {J = J} s k n = ((p : J) × (s k ≡ Some (Stopped p n))) × (is_done (s n) ≡ false)

-- one finished key more, behind those before
abbrev pub EndsKey : How → Book → List Finished → List Finished → Made → Type 0
EndsKey h b old new m = (f : Finished) × (new ≡ old ++ f ∷ []) × (f.made ≡ m) × FinishesRight h b old m f

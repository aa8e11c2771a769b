-- Builds that give nothing up.
use Rattle.std.specs.Prelude.{ℕ, ◌≡◌, ◌⊎◌, Bool, true, List, [], ◌∷◌, ◌++◌}
use Rattle.carte_value.specs.Truths.{Truth, Among}
use Rattle.carte_effect.specs.Ledger.{Ledger}
use Rattle.carte_book.specs.Book.{Book}
use Rattle.carte_book.specs.Edits.{IsInput}
use Rattle.carte_book.specs.Needs.{IsRule, needs}
use Rattle.carte_record.specs.Kept.{SomeKept}
use Rattle.carte_sound.specs.Base.{IsBase}
use Rattle.carte_sound.specs.Held.{How}
use Rattle.carte_rebuild.specs.declared.work.Work.{Work}
use Rattle.carte_rebuild.specs.Ends.{AllEnded}
use Rattle.carte_rebuild.specs.Goes.{AreThere}
use Rattle.carte_bench.specs.Spots.{Spots, is_done, seen_in}
use Rattle.carte_bench.specs.Steps.{FitsOf}
use Rattle.carte_progress.specs.Standing.{IsDemanded}
use Rattle.carte_restart.specs.Going.{IsRestarting}

-- all that was demanded is done, and each start has its end
pub record IsStraight {J : Type 0} (s : Spots J) (r : Ledger) : Type 0 where
  pub done : (k : List ℕ) → IsDemanded s k → is_done (s k) ≡ true
  pub ended : AllEnded r

-- so it is but for this target, which is the path and has its needs there
pub record IsNext {J : Type 0} (b : Book) (s : Spots J) (r : Ledger) (path : List (List ℕ)) (target : List ℕ) : Type 0 where
  pub path_is : path ≡ target ∷ []
  pub there : AreThere b (seen_in b s) target
  pub done : (k : List ℕ) → ¬ (target ≡ k) → IsDemanded s k → is_done (s k) ≡ true
  pub ended : AllEnded r

abbrev pub IsAhead : {J : Type 0} → Book → Spots J → Ledger → List (List ℕ) → List ℕ → Type 0
IsAhead b s r path target = ((path ≡ []) × IsStraight s r) ⊎ IsNext b s r path target

-- a turn of such a target ends it
abbrev pub EndsNext : {J : Type 0} → (J → Bool) → FitsOf J → (Truth → List ℕ → J → Type 0) → How → SomeKept → Book → List (List ℕ) → Spots J → Spots J → Work → Work → List (List ℕ) → List (List ℕ) → Type 0
EndsNext started fits begun h K b begins old new w w' path path' = (H : List Book) (target : List ℕ) → IsBase K b H → IsRestarting started fits begun h K b begins old w.finished w.runs → IsNext b old w.runs path target → (path' ≡ []) × IsStraight new w'.runs

-- what is straight stays so where this holds
abbrev pub GoesStraight : {J : Type 0} → (J → Bool) → FitsOf J → (Truth → List ℕ → J → Type 0) → How → SomeKept → Book → List (List ℕ) → Spots J → Spots J → Work → Work → Type 0 → Type 0
GoesStraight started fits begun h K b begins old new w w' P = (H : List Book) → IsBase K b H → IsRestarting started fits begun h K b begins old w.finished w.runs → IsStraight old w.runs → P → IsStraight new w'.runs

-- each need of the key is an input, or a rule among these
abbrev pub NeedsAmong : Book → List (List ℕ) → List ℕ → Type 0
NeedsAmong b others k = (j : List ℕ) → Among (needs b k) j → IsInput b j ⊎ (IsRule b j × Among others j)

-- the needs of each rule of the list are inputs, or rules that stand before it or are among the others
abbrev pub IsPrepared : Book → List (List ℕ) → List (List ℕ) → Type 0
IsPrepared b others ks = (before after : List (List ℕ)) (k : List ℕ) → ks ≡ before ++ k ∷ after → IsRule b k → NeedsAmong b (before ++ others) k

-- so it is, and the others were demanded
abbrev pub IsPreparedOn : {J : Type 0} → Book → Spots J → List (List ℕ) → Type 0
IsPreparedOn b s ks = (others : List (List ℕ)) × ((j : List ℕ) → Among others j → IsRule b j → IsDemanded s j) × IsPrepared b others ks

-- Which rules a build treats, over what it begins with.
use Rattle.std.specs.Prelude.{ℕ, List}
use Rattle.carte_value.specs.Truths.{Among}
use Rattle.carte_book.specs.Book.{Book}
use Rattle.carte_book.specs.Needs.{IsRule, needs, IsReachedRule}
use Rattle.carte_book.specs.Reason.{IsClean}
use Rattle.carte_record.specs.Kept.{SomeKept}
use Rattle.carte_sound.specs.Held.{How, IsHeld, IsFollowed}
use Rattle.carte_sound.specs.Marks.{Leads}

-- by suspending: the rules that begin it, and the rules among the needs of what is followed
pub data IsTreated (h : How) (K : SomeKept) (b : Book) (begins : List (List ℕ)) : List ℕ → Type 0 where
  target : {k : List ℕ} → Among begins k → IsRule b k → IsTreated h K b begins k
  need : {j k : List ℕ} → IsTreated h K b begins j → IsFollowed h K b j → Among (needs b j) k → IsRule b k → IsTreated h K b begins k

-- a treated rule with a clean value
abbrev pub IsDone : (List ℕ → Type 0) → Book → List ℕ → Type 0
IsDone treated b k = treated k × IsClean b k

-- where each rule is ordered before any is worked out, every rule that is reached is treated
abbrev pub IsDoneInOrder : Book → List (List ℕ) → List ℕ → Type 0
IsDoneInOrder b targets k = IsDone (IsReachedRule b targets) b k

abbrev pub IsDoneSuspending : How → SomeKept → Book → List (List ℕ) → List ℕ → Type 0
IsDoneSuspending h K b targets k = IsDone (IsTreated h K b targets) b k

-- a rule that is done and isn't held
abbrev pub IsRun : How → SomeKept → Book → (List ℕ → Type 0) → List ℕ → Type 0
IsRun h K b done k = done k × ¬ (IsHeld h K b k)

-- a target leads to it by the needs of entries, of stale and shallow ones too
pub record IsLedTo (K : SomeKept) (targets : List (List ℕ)) (k : List ℕ) : Type 0 where
  pub target : List ℕ
  pub among : Among targets target
  pub leads : Leads K target k

abbrev pub IsLedRule : SomeKept → Book → List (List ℕ) → List ℕ → Type 0
IsLedRule K b targets k = IsRule b k × IsLedTo K targets k

-- by restarting: the targets, the rules that they lead to, and the rules among the needs of what is followed
pub data IsTreatedRestarting (h : How) (K : SomeKept) (b : Book) (targets : List (List ℕ)) : List ℕ → Type 0 where
  target : {k : List ℕ} → Among targets k → IsRule b k → IsTreatedRestarting h K b targets k
  led : {k : List ℕ} → IsLedTo K targets k → IsRule b k → IsTreatedRestarting h K b targets k
  need : {j k : List ℕ} → IsTreatedRestarting h K b targets j → IsFollowed h K b j → Among (needs b j) k → IsRule b k → IsTreatedRestarting h K b targets k

abbrev pub IsDoneRestarting : How → SomeKept → Book → List (List ℕ) → List ℕ → Type 0
IsDoneRestarting h K b targets k = IsDone (IsTreatedRestarting h K b targets) b k

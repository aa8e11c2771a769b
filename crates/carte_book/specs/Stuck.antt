-- Stuck needs: what a rule without a clean value waits for.
use Rattle.std.specs.Prelude.{ℕ, ◌≡◌, ◌⊎◌, List, None}
use Rattle.carte_value.specs.Lists.{IsLast}
use Rattle.carte_value.specs.Truths.{Among}
use Rattle.carte_book.specs.Book.{Book, content, clean}
use Rattle.carte_book.specs.Needs.{needs}
use Rattle.carte_book.specs.Reason.{AllClean, StuckAt, IsReason}
use Rattle.carte_book.specs.declared.reason.Reason.{Reason}

-- the stuck need is the last need, which has no clean value
pub record IsStuckAtLast (b : Book) (k j : List ℕ) : Type 0 where
  pub last : IsLast (needs b k) j
  pub none : clean b j ≡ None

-- both ways
pub record StuckIsLastNeed (b : Book) (k j : List ℕ) : Type 0 where
  pub is_last : StuckAt b k j → IsStuckAtLast b k j
  pub is_stuck : IsStuckAtLast b k j → StuckAt b k j

-- it has nothing, or one of its needs has the property too
abbrev pub IsBlockedBy : Book → (List ℕ → Type 0) → List ℕ → Type 0
IsBlockedBy b P k = (content b k ≡ None) ⊎ ((j : List ℕ) × Among (needs b k) j × P j)

-- targets have clean values, or there is a reason why not
abbrev pub CleanOrReason : Book → List (List ℕ) → Type 0
CleanOrReason b targets = AllClean b targets ⊎ ((reason : Reason) × IsReason b targets reason)

-- What holds of every run of a computation.
use Rattle.std.specs.Prelude.{ℕ, List, ◌≡◌, None, Ok, Err}
use Rattle.carte_value.specs.Truths.{Truth, Extends}
use Rattle.carte_value.specs.Lists.{IsLast}
use Rattle.carte_value.specs.Asks.{Asks, run, asked, firsts}

-- what ends over a part of a truth ends so over the whole, and asks for the same names
pub record Grown (A : Type 0) : Type 0 where
  pub result : (t u : Truth) (m : Asks A) (a : A) → Extends t u → run t m ≡ Ok a → run u m ≡ Ok a
  pub names : (t u : Truth) (m : Asks A) (a : A) → Extends t u → run t m ≡ Ok a → asked u m ≡ asked t m

-- a run stops at a name exactly where that is the last name asked for and has no value
pub record StuckIsLast (A : Type 0) : Type 0 where
  pub none : (t : Truth) (m : Asks A) (k : List ℕ) → run t m ≡ Err k → t k ≡ None
  pub last : (t : Truth) (m : Asks A) (k : List ℕ) → run t m ≡ Err k → IsLast (asked t m) k
  pub last_once : (t : Truth) (m : Asks A) (k : List ℕ) → run t m ≡ Err k → IsLast (firsts (asked t m)) k
  pub stuck : (t : Truth) (m : Asks A) (k : List ℕ) → IsLast (asked t m) k → t k ≡ None → run t m ≡ Err k
  pub stuck_once : (t : Truth) (m : Asks A) (k : List ℕ) → IsLast (firsts (asked t m)) k → t k ≡ None → run t m ≡ Err k

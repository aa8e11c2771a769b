-- Keys in an order in which a build may finish them.
use Rattle.std.specs.Prelude.{ℕ, Bool, true, false, List, [], ◌∷◌}
use Rattle.carte_value.specs.Truths.{Among, NoneTwice}
use Rattle.carte_book.specs.Book.{Book}
use Rattle.carte_book.specs.Needs.{IsRule, needs}
use Rattle.carte_book.specs.Reason.{IsClean}
use Rattle.carte_record.specs.Kept.{SomeKept}
use Rattle.carte_sound.specs.Held.{How, IsHeld, IsFollowed}
use Rattle.carte_sound.specs.Left.{Finishes, keys_of}

-- it ran exactly where it isn't held
abbrev pub RanOrHeld : How → SomeKept → Book → List ℕ → Bool → Type 0
RanOrHeld h K b k true = ¬ (IsHeld h K b k)
RanOrHeld h K b k false = IsHeld h K b k

-- a key that may be finished behind these: a rule with a clean value, behind the rules among its needs where those are looked into
pub record IsFinishedAfter (h : How) (b : Book) (K : SomeKept) (before : List (List ℕ)) (k : List ℕ) (ran : Bool) : Type 0 where
  pub is_rule : IsRule b k
  pub clean : IsClean b k
  pub came : RanOrHeld h K b k ran
  pub order : IsFollowed h K b k → (j : List ℕ) → Among (needs b k) j → IsRule b j → Among before j

-- each of them, held or not over what the build begins with
abbrev pub AreFinished : How → Book → SomeKept → List (List ℕ) → Finishes → Type 0
AreFinished h b K before [] = Unit {0}
AreFinished h b K before (f ∷ fs) = IsFinishedAfter h b K before f.0 f.1 × AreFinished h b K (f.0 ∷ before) fs

-- such an order, each once, of exactly the keys that have a property
pub record IsFinishing (h : How) (b : Book) (K : SomeKept) (done : List ℕ → Type 0) (fs : Finishes) : Type 0 where
  pub finished : AreFinished h b K [] fs
  pub once : NoneTwice (keys_of fs)
  pub only : (k : List ℕ) → Among (keys_of fs) k → done k
  pub each : (k : List ℕ) → done k → Among (keys_of fs) k

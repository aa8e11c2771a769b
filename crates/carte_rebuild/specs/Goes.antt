-- How the jobs of a rebuilder go on, over parts of the clean values of a book.
use Rattle.std.specs.Prelude.{ℕ, ◌≡◌, ◌⊎◌, List, ◌++◌, Some, None}
use Rattle.carte_value.specs.declared.value.Value.{Value}
use Rattle.carte_value.specs.Truths.{Truth, Extends, Among, HasValue}
use Rattle.carte_effect.specs.Jobs.{Step, came, stopped, no_memory}
use Rattle.carte_book.specs.Book.{Book, input, content, clean}
use Rattle.carte_book.specs.Needs.{needs}
use Rattle.carte_record.specs.declared.way.Way.TheVariants.{Verifying, Constructive, Deep}
use Rattle.carte_record.specs.Kept.{SomeKept}
use Rattle.carte_sound.specs.Beneath.{beneath}
use Rattle.carte_sound.specs.Held.{How, dirty, tracing, IsFollowed}
use Rattle.carte_note.specs.Right.{IsRightMade}

-- the inputs, and some of the other clean values
pub record IsPart (b : Book) (t : Truth) : Type 0 where
  pub part : Extends t (clean b)
  pub inputs : (i : List ℕ) (v : Value) → content b i ≡ Some (input v) → t i ≡ Some v

-- what a job of a key may ask for: the key's needs, and under deep traces the inputs beneath it
abbrev pub may_ask : How → Book → List ℕ → List (List ℕ)
may_ask dirty b k = needs b k
may_ask (tracing Verifying) b k = needs b k
may_ask (tracing Constructive) b k = needs b k
may_ask (tracing Deep) b k = needs b k ++ beneath b k

-- each need of the key is there
abbrev pub AreThere : Book → Truth → List ℕ → Type 0
AreThere b t k = (j : List ℕ) → Among (needs b k) j → HasValue t j

-- where this need will never be there, all others are
abbrev pub AreThereBefore : Book → Truth → List ℕ → List ℕ → Type 0
AreThereBefore b t k n = clean b n ≡ None → (j : List ℕ) → Among (needs b k) j → (j ≡ n) ⊎ HasValue t j

-- It made what is right, and where the key's needs are looked into, they are there. Or it stopped, which is only where they are looked into, or had no memory; then it goes on as it was begun.
abbrev pub GoesOver : {J : Type 0} → How → SomeKept → Book → List ℕ → Truth → (Truth → J → Type 0) → Step → J → Type 0
GoesOver h K b k part begun (came m) q = IsRightMade h K b k m × (IsFollowed h K b k → AreThere b part k)
GoesOver h K b k part begun (stopped n) q = begun part q × IsFollowed h K b k × AreThereBefore b part k n
GoesOver h K b k part begun no_memory q = begun part q

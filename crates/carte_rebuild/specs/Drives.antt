-- Jobs that are driven as often as one likes, over parts that grow.
use Rattle.std.specs.Prelude.{ℕ, List}
use Rattle.carte_value.specs.Truths.{Truth, Extends}
use Rattle.carte_value.specs.Once.{Answers}
use Rattle.carte_effect.specs.Jobs.{Step, stopped, no_memory}
use Rattle.carte_book.specs.Book.{Book}
use Rattle.carte_rebuild.specs.Goes.{IsPart}

-- The job p, which was driven over parts of the first truth, is driven until a last drive, over the second, comes to the step and leaves q. Each drive is over the inputs and some of the other clean values, and over what the one before it was.
pub data Driven {J : Type 0} (gives : J → Truth → Answers → Step → J → Type 0) (b : Book) : Truth → J → Truth → Step → J → Type 0 where
  last : {t part : Truth} {p q : J} (further : Answers) (step : Step) → Extends t part → IsPart b part → gives p part further step q → Driven gives b t p part step q
  stops : {t part u : Truth} {p q r : J} {step : Step} (further : Answers) (n : List ℕ) → Extends t part → IsPart b part → gives p part further (stopped n) q → Driven gives b part q u step r → Driven gives b t p u step r
  lacks : {t part u : Truth} {p q r : J} {step : Step} (further : Answers) → Extends t part → IsPart b part → gives p part further no_memory q → Driven gives b part q u step r → Driven gives b t p u step r

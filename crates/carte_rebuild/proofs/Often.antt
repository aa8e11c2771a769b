-- Jobs that are driven often.
use Rattle.std.proofs.Common.{ℕ, List}
use Rattle.carte_value.specs.Truths.{Truth, Extends}
use Rattle.carte_value.specs.Once.{Answers}
use Rattle.carte_effect.specs.Jobs.{Step, stopped, no_memory}
use Rattle.carte_book.specs.Book.{Book}
use Rattle.carte_rebuild.specs.Goes.{IsPart}
use Rattle.carte_rebuild.specs.Drives.{Driven, last, stops, lacks}

-- what holds of one drive of a job that was begun, and leaves such a job where it can go on, holds of the last one
pub driven_goes : {J : Type 0} (gives : J → Truth → Answers → Step → J → Type 0) (b : Book) (begun : Truth → J → Type 0) (Goal : Truth → Step → J → Type 0)
    → ((t part : Truth) (p q : J) (a : Answers) (step : Step) → begun t p → Extends t part → IsPart b part → gives p part a step q → Goal part step q)
    → ((u : Truth) (n : List ℕ) (q : J) → Goal u (stopped n) q → begun u q)
    → ((u : Truth) (q : J) → Goal u no_memory q → begun u q)
    → (t : Truth) (p : J) (u : Truth) (step : Step) (q : J) → Driven gives b t p u step q → begun t p → Goal u step q
driven_goes gives b begun Goal law on_stop on_lack t p u step q (last a s more is_part gave) start = law t u p q a step start more is_part gave
driven_goes gives b begun Goal law on_stop on_lack t p u step r (stops {part = part} {q = q} a n more is_part gave rest) start =
    driven_goes gives b begun Goal law on_stop on_lack part q u step r rest (on_stop part n q (law t part p q a (stopped n) start more is_part gave))
driven_goes gives b begun Goal law on_stop on_lack t p u step r (lacks {part = part} {q = q} a more is_part gave rest) start =
    driven_goes gives b begun Goal law on_stop on_lack part q u step r rest (on_lack part q (law t part p q a no_memory start more is_part gave))

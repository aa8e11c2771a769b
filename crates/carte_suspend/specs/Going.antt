-- What is known between the turns of a build, over what it may rely on.
use Rattle.std.specs.Prelude.{ℕ, Bool, List}
use Rattle.carte_value.specs.Truths.{Truth}
use Rattle.carte_book.specs.Book.{Book}
use Rattle.carte_record.specs.Kept.{SomeKept}
use Rattle.carte_sound.specs.Base.{IsBase}
use Rattle.carte_sound.specs.Held.{How}
use Rattle.carte_rebuild.specs.declared.work.Work.{Work}
use Rattle.carte_bench.specs.Spots.{Spots}
use Rattle.carte_bench.specs.Steps.{FitsOf}
use Rattle.carte_progress.specs.Counted.{IsGoing}

-- the same is known after it as before it
abbrev pub GoesOn : {J : Type 0} → (J → Bool) → FitsOf J → (Truth → List ℕ → J → Type 0) → How → SomeKept → Book → List (List ℕ) → Spots J → Spots J → Work → Work → Type 0
GoesOn started fits begun h K b targets old new w w' = (H : List Book) → IsBase K b H → IsGoing started fits begun h K b targets old w.finished w.runs → IsGoing started fits begun h K b targets new w'.finished w'.runs

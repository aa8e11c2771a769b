-- What the answer of a build shows of it, by what the words choose.
use Rattle.std.specs.Prelude.{ℕ, List, None}
use Rattle.carte_book.specs.Book.{Book}
use Rattle.carte_deep.specs.Jobs.{IsDeepJob}
use Rattle.carte_deep.specs.Work.{has_begun, left_in, name_in}
use Rattle.carte_dirty.specs.Jobs.{IsDirtyJob}
use Rattle.carte_engine.specs.Shown.{ShowsBuild}
use Rattle.carte_engine.specs.Versions.{kept_for}
use Rattle.carte_engine.specs.declared.answer.Answer.{Answer}
use Rattle.carte_engine.specs.declared.scheduler.Scheduler.{Scheduler}
use Rattle.carte_rebuild.specs.Left.{is_started, left_of, name_of}
use Rattle.carte_rebuild.specs.Traced.{IsTracedJob}
use Rattle.carte_rebuild.specs.Trying.{Gives}
use Rattle.carte_rebuild.specs.declared.tries.Tries.{Tries}
use Rattle.carte_record.specs.Kept.{SomeKept}
use Rattle.carte_record.specs.declared.way.Way.TheVariants.{Verifying, Constructive}
use Rattle.carte_sound.specs.Held.{How}
use Rattle.carte_state.specs.Versions.{AnyKept}
use Rattle.carte_words.specs.declared.words.Rebuilder4.{Rebuilder4}
use Rattle.carte_words.specs.declared.words.Rebuilder4.TheVariants as rebuilder
use Rattle.carte_shell.specs.Chosen.{how_of}

-- over jobs that try what they have kept, and begin so
abbrev pub ShowsTries : (SomeKept → List ℕ → Tries → Type 0) → How → Scheduler → ℕ → AnyKept → Book → List (List ℕ) → Answer → Type 0
ShowsTries begins h s workers A b targets a =
    ShowsBuild name_of is_started (λ p t x step q. Gives (left_of p) t x step (left_of q)) begins h b targets s workers (kept_for A b) a

-- The answer shows an end of the build that the words choose, over what it begins with, whatever is kept.
abbrev pub ShowsBy : Rebuilder4 → Scheduler → ℕ → AnyKept → Book → List (List ℕ) → Answer → Type 0
ShowsBy rebuilder.Dirty s workers A b targets a = ShowsTries (λ M k p. IsDirtyJob M b (λ q. None) k p) (how_of rebuilder.Dirty) s workers A b targets a
ShowsBy rebuilder.Verifying s workers A b targets a = ShowsTries (λ M k p. IsTracedJob Verifying M b (λ q. None) k p) (how_of rebuilder.Verifying) s workers A b targets a
ShowsBy rebuilder.Constructive s workers A b targets a = ShowsTries (λ M k p. IsTracedJob Constructive M b (λ q. None) k p) (how_of rebuilder.Constructive) s workers A b targets a
ShowsBy rebuilder.Deep s workers A b targets a =
    ShowsBuild name_in has_begun (λ p t x step q. Gives (left_in p) t x step (left_in q)) (λ M k p. IsDeepJob M b (λ q. None) k p) (how_of rebuilder.Deep) b targets s workers (kept_for A b) a

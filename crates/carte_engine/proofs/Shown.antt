-- The answer of a plan shows an end of the scheduler's build, over what that begins with.
use Rattle.std.proofs.Common.{◌≡◌, ℕ, Bool, List, Result, Ok, Err, subst}
use Rattle.std.specs.Prelude.{IfOk}
use Rattle.carte_value.specs.Once.{Answers}
use Rattle.carte_value.specs.Truths.{Truth}
use Rattle.carte_effect.specs.Jobs.{Step}
use Rattle.carte_book.specs.Book.{Book}
use Rattle.carte_record.specs.Kept.{SomeKept}
use Rattle.carte_mark.specs.declared.base.Begun.{Begun}
use Rattle.carte_mark.specs.Bases.{BeginsWith, beginning_of}
use Rattle.carte_sound.specs.Held.{How}
use Rattle.carte_rebuild.specs.declared.work.WorkEnd.{WorkEnd}
use Rattle.carte_engine.specs.Reckoned.{ShowsEnd}
use Rattle.carte_engine.specs.Shown.{IsEnd, ShowsBuild}
use Rattle.carte_engine.specs.declared.answer.Plan.{Plan}
use Rattle.carte_engine.specs.declared.scheduler.Scheduler.{Scheduler}

module _ {J : Type 0} (name : J → List ℕ) (started : J → Bool) (gives : J → Truth → Answers → Step → J → Type 0) (opens : SomeKept → List ℕ → J → Type 0) (h : How) (b : Book) (targets : List (List ℕ)) where
  pub shown_over : {E : Type 0} (s : Scheduler) (workers : ℕ) (K : SomeKept) (x : Begun) (M : SomeKept) → BeginsWith K b x M → (end : WorkEnd) → IsEnd name started gives opens h b targets s workers M end
      → (r : Result Plan E) → IfOk r (λ p. ShowsEnd b targets end p.answer) → IfOk r (λ p. ShowsBuild name started gives opens h b targets s workers K p.answer)
  shown_over s workers K x M begins end is_end (Ok p) shows = record {
    begun = beginning_of x;
    begins = begins.begun;
    end = end;
    is_end = subst (λ L. IsEnd name started gives opens h b targets s workers L end) begins.base is_end;
    shows = shows;
  }
  shown_over s workers K x M begins end is_end (Err e) shows = tt

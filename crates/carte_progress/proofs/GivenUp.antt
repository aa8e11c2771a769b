-- That no job was given up where each target has a value, and what is known of those that were.
use Rattle.std.proofs.Common.{◌≡◌, ℕ, Bool, true, List, [], Option, Some, None, refl, inl, inr}
use Rattle.carte_value.specs.Truths.{Truth, Among}
use Rattle.carte_effect.specs.Ledger.{Ledger}
use Rattle.carte_book.specs.Book.{Book}
use Rattle.carte_book.specs.Needs.{IsRule}
use Rattle.carte_book.specs.Reason.{IsClean}
use Rattle.carte_record.specs.Kept.{SomeKept}
use Rattle.carte_sound.specs.Held.{How}
use Rattle.carte_sound.specs.Treated.{IsTreated}
use Rattle.carte_note.specs.declared.finished.Finished.{Finished}
use Rattle.carte_rebuild.specs.declared.work.Work.{Work}
use Rattle.carte_rebuild.specs.Ends.{NothingGivenUp, StartedOnce}
use Rattle.carte_bench.specs.declared.slot.Slot.{Slot}
use Rattle.carte_bench.specs.Spots.{Spots, is_done}
use Rattle.carte_bench.specs.Steps.{FitsOf}
use Rattle.carte_progress.specs.Standing.{IsStanding, IsDemanded}
use Rattle.carte_progress.proofs.Ending.{none_left}
use Rattle.carte_progress.proofs.Listing.{ran_keys}
use Rattle.carte_progress.proofs.Puts.{job_there}
use Rattle.carte_progress.specs.Counted.{IsGoing}

pub nothing_given_up : {J : Type 0} (name : J → List ℕ) (b : Book) (s : Spots J) (standing : IsStanding name b s []) (started : J → Bool) (fits : FitsOf J) (begun : Truth → List ℕ → J → Type 0) (h : How) (K : SomeKept) (targets : List (List ℕ)) (fs : List Finished) (r : Ledger) (going : IsGoing started fits begun h K b targets s fs r) (demanded : (t : List ℕ) → Among targets t → IsRule b t → IsDemanded s t) (w : Work) → w.runs ≡ r → ((t : List ℕ) → Among targets t → IsClean b t) → NothingGivenUp w
nothing_given_up name b s standing started fits begun h K targets fs r going demanded w runs all = record {
  once = rw runs going.counted.once;
  only = λ k here. rw (runs, going.counted.ends) (elim (going.counted.only k (rw runs at here)) [
    | inl there ↦ there
    | inr running ↦ absurd (none_left name b s standing fits begun h K targets fs going.along demanded all k running.0 running.1)
  ]);
  each = λ k here. rw runs (going.counted.each k (inl (rw (runs, going.counted.ends) at here)));
}

done_there : {J : Type 0} (o : Option (Slot J)) → is_done o ≡ true → (x : Slot J) × (o ≡ Some x)
done_there None is = cc
done_there (Some x) is = (x, refl)

-- each that was started has ended or is running, so it was demanded, and is treated
pub started_once : {J : Type 0} (started : J → Bool) (fits : FitsOf J) (begun : Truth → List ℕ → J → Type 0) (h : How) (K : SomeKept) (b : Book) (targets : List (List ℕ)) (s : Spots J) (fs : List Finished) (r : Ledger) (going : IsGoing started fits begun h K b targets s fs r) (w : Work) → w.runs ≡ r → StartedOnce (IsTreated h K b targets) w
started_once started fits begun h K b targets s fs r going w runs = record {
  once = rw runs going.counted.once;
  only = λ k here. elim (going.counted.only k (rw runs at here)) [
    | inl there ↦ (let slot = done_there (s k) (going.along.finished.only k (ran_keys fs k there)) in going.along.known.treated k slot.0 slot.1)
    | inr running ↦ (let slot = job_there (s k) running.0 running.1 in going.along.known.treated k slot.0 slot.1)
  ];
  each = λ k here. rw runs (going.counted.each k (inl (rw (runs, going.counted.ends) at here)));
}

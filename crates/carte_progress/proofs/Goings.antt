-- What is known of a bench, and of the ledger, after each step of a build.
use Rattle.std.proofs.Common.{◌≡◌, ℕ, Bool, List, [], Some, None, Result, Ok, Err, refl, sym, subst, inl, inr}
use Rattle.carte_value.specs.Truths.{Truth, Among}
use Rattle.carte_effect.specs.declared.look.Stuck.{Stuck}
use Rattle.carte_effect.specs.declared.outcome.Made.{Made}
use Rattle.carte_effect.specs.Ledger.{Ledger}
use Rattle.carte_book.specs.Book.{Book}
use Rattle.carte_book.specs.Needs.{IsRule}
use Rattle.carte_record.specs.Kept.{SomeKept}
use Rattle.carte_sound.specs.Held.{How}
use Rattle.carte_sound.specs.Treated.{IsTreated}
use Rattle.carte_note.specs.declared.finished.Finished.{Finished}
use Rattle.carte_note.specs.Right.{ran_in}
use Rattle.carte_bench.specs.Spots.{Spots, IsSame, seen_in}
use Rattle.carte_bench.specs.Steps.{FitsOf, GivesOf}
use Rattle.carte_bench.specs.Turns.{TurnedTo}
use Rattle.carte_progress.specs.Opening.{Opens, EndsKey}
use Rattle.carte_progress.proofs.Alongs.{Laws, FitAll, along_none, along_opens}
use Rattle.carte_progress.proofs.Driving.{turn_driven, along_stopped, along_ended, ran_ended, not_run}
use Rattle.carte_progress.proofs.Turned.{turn_put}
use Rattle.carte_progress.specs.Counted.{IsCounted, IsGoing}
use Rattle.carte_progress.proofs.Ledgers.{counted_same, counted_demand, counted_stop, counted_end}

-- nothing is known of an empty bench but that
pub going_none : {J : Type 0} (started : J → Bool) (fits : FitsOf J) (begun : Truth → List ℕ → J → Type 0) (h : How) (K : SomeKept) (b : Book) (targets : List (List ℕ)) (s : Spots J) → IsSame (λ q. None) s → IsGoing started fits begun h K b targets s [] (record { starts = []; ends = [] })
going_none started fits begun h K b targets s none = record {
  along = along_none fits begun h K b targets s none;
  counted = record {
    ends = refl;
    once = tt;
    only = λ k here. absurd here;
    each = λ k here. elim here [
      | inl there ↦ absurd there
      | inr running ↦ (let both : None ≡ Some running.0 = rw (none k) at running.1 in cc)
    ];
  };
}

module _ {J : Type 0} (name : J → List ℕ) (started : J → Bool) (fits : FitsOf J) (begun : Truth → List ℕ → J → Type 0) (h : How) (K : SomeKept) (b : Book) (targets : List (List ℕ)) (fit : FitAll fits begun h b) (s d : Spots J) (n : List ℕ) (fs : List Finished) (r : Ledger) (going : IsGoing started fits begun h K b targets s fs r) where
  counted_opens : (path path' : List (List ℕ)) → Opens name started (λ k j. begun (λ q. None) k j) b s d path path' n → IsCounted started d (ran_in fs) r
  counted_opens path path' (inl demands) = counted_demand started s d n demands.job (ran_in fs) r going.counted demands.put demands.fresh.1 demands.idle
  counted_opens path path' (inr leaves) = counted_same started s d (ran_in fs) r leaves.1 going.counted

  pub going_opens : (path path' : List (List ℕ)) → (IsRule b n → IsTreated h K b targets n) → Opens name started (λ k j. begun (λ q. None) k j) b s d path path' n → IsGoing started fits begun h K b targets d fs r
  going_opens path path' treated opens = record {
    along = along_opens name started fits begun h K b targets fit s d n fs going.along path path' treated opens;
    counted = counted_opens path path' opens;
  }

module _ {J : Type 0} (name : J → List ℕ) (started : J → Bool) (fits : FitsOf J) (gives : GivesOf J) (begun : Truth → List ℕ → J → Type 0) (h : How) (K : SomeKept) (b : Book) (targets : List (List ℕ)) (laws : Laws name started fits gives begun h K b) (old new : Spots J) (k : List ℕ) (fs : List Finished) (r r' : Ledger) (going : IsGoing started fits begun h K b targets old fs r) where
  new_run : (o : Result Made Stuck) → TurnedTo name started gives b old new r r' k o → ¬ (Among (ran_in fs) k)
  new_run o turned = not_run fits begun h K b targets old fs k going.along turned.before turned.stood

  -- it stopped
  pub going_stopped : (x : Stuck) → TurnedTo name started gives b old new r r' k (Err x) → IsGoing started fits begun h K b targets new fs r'
  going_stopped x turned =
      let core = laws.keeps old new r r' k None (x, turned) going.along.known.core in record {
        along = along_stopped name started fits gives begun h K b targets laws.goes_on (seen_in b turned.mid) old new k fs r r' going.along core x (turn_driven name started fits gives begun h K b targets old new k r r' going.along.known (Err x) turned);
        counted = counted_stop started old new k turned.before turned.after x (ran_in fs) r r' going.counted turned.stood (new_run (Err x) turned) (turn_put name started gives b old new r r' k (Err x) turned) turned.counted;
      }

  -- it ended
  pub going_ended : (m : Made) (fs' : List Finished) → TurnedTo name started gives b old new r r' k (Ok m) → EndsKey h b fs fs' m → IsGoing started fits begun h K b targets new fs' r'
  going_ended m fs' turned ends =
      let core = laws.keeps old new r r' k (Some m) turned going.along.known.core in
      let driven = turn_driven name started fits gives begun h K b targets old new k r r' going.along.known (Ok m) turned in record {
        along = along_ended name started fits gives begun h K b targets laws.goes_on (seen_in b turned.mid) old new k fs r r' going.along core m fs' driven ends;
        counted = subst (λ ran. IsCounted started new ran r') (sym (ran_ended name started fits gives begun h K b targets laws.goes_on (seen_in b turned.mid) old new k fs r r' going.along core m fs' driven ends)) (counted_end started old new k turned.before turned.after m (ran_in fs) r r' going.counted turned.stood (new_run (Ok m) turned) (turn_put name started gives b old new r r' k (Ok m) turned) turned.counted);
      }

-- What is known of a bench, and of the ledger, after each step of a build.
use Rattle.std.proofs.Common.{◌≡◌, ℕ, Bool, true, List, [], Some, None, Ok, Err, sym, subst, inl, inr}
use Rattle.carte_value.specs.Truths.{Truth, Among}
use Rattle.carte_effect.specs.declared.look.Stuck.{Stuck}
use Rattle.carte_effect.specs.declared.outcome.Made.{Made}
use Rattle.carte_effect.specs.Ledger.{Ledger}
use Rattle.carte_book.specs.Book.{Book}
use Rattle.carte_book.specs.Needs.{IsRule, needs}
use Rattle.carte_record.specs.Kept.{SomeKept}
use Rattle.carte_sound.specs.Held.{How}
use Rattle.carte_sound.specs.Treated.{IsTreated}
use Rattle.carte_note.specs.declared.finished.Finished.{Finished}
use Rattle.carte_note.specs.Right.{ran_in}
use Rattle.carte_bench.specs.declared.slot.Slot.TheVariants.{Stopped}
use Rattle.carte_bench.specs.Spots.{Spots, IsSame, is_ready, name_of, seen_in}
use Rattle.carte_bench.specs.Steps.{FitsOf, GivesOf, IsCore}
use Rattle.carte_bench.specs.Turns.{TurnedTo}
use Rattle.carte_progress.specs.Opening.{Opens, EndsKey}
use Rattle.carte_progress.specs.Progress.{IsAlong}
use Rattle.carte_progress.proofs.Alongs.{Laws, FitAll, along_none, along_opens}
use Rattle.carte_progress.proofs.Driving.{turn_driven, along_stopped, along_ended, ran_ended}
use Rattle.carte_progress.proofs.Puts.{job_there}
use Rattle.carte_progress.proofs.Turned.{turn_put}
use Rattle.carte_restart.specs.Anew.{IsRenewed}
use Rattle.carte_restart.specs.Going.{IsTallied, IsRestarting}
use Rattle.carte_restart.proofs.Renewing.{anew_put, anew_rule, anew_undone, along_anew, stood_mid}
use Rattle.carte_restart.proofs.Tallying.{tallied_none, tallied_same, tallied_demand, tallied_stop, tallied_end}

-- nothing is known of an empty bench but that
pub going_none : {J : Type 0} (started : J → Bool) (fits : FitsOf J) (begun : Truth → List ℕ → J → Type 0) (h : How) (K : SomeKept) (b : Book) (targets : List (List ℕ)) (s : Spots J) → IsSame (λ q. None) s → IsRestarting started fits begun h K b targets s [] (record { starts = []; ends = [] })
going_none started fits begun h K b targets s none = record {
  along = along_none fits begun h K b targets s none;
  tallied = tallied_none started b s none;
}

-- of the same path and name
pub opens_same : {J : Type 0} (name : J → List ℕ) (started : J → Bool) (begins : List ℕ → J → Type 0) (b : Book) (s d : Spots J) (path path' : List (List ℕ)) (n : List ℕ) (before : List (List ℕ)) (i : List ℕ) → before ≡ path → i ≡ n → Opens name started begins b s d before path' i → Opens name started begins b s d path path' n
opens_same name started begins b s d path path' n before i one two opens = subst (λ p. Opens name started begins b s d p path' n) one (subst (λ m. Opens name started begins b s d before path' m) two opens)

module _ {J : Type 0} (name : J → List ℕ) (started : J → Bool) (fits : FitsOf J) (begun : Truth → List ℕ → J → Type 0) (h : How) (K : SomeKept) (b : Book) (targets : List (List ℕ)) (fit : FitAll fits begun h b) (s d : Spots J) (n : List ℕ) (fs : List Finished) (r : Ledger) (going : IsRestarting started fits begun h K b targets s fs r) where
  tallied_opens : (path path' : List (List ℕ)) → Opens name started (λ k j. begun (λ q. None) k j) b s d path path' n → IsTallied started b d (ran_in fs) r
  tallied_opens path path' (inl demands) = tallied_demand started b s d n demands.job (ran_in fs) r going.tallied demands.put demands.fresh.1 demands.idle
  tallied_opens path path' (inr leaves) = tallied_same started b s d (ran_in fs) r leaves.1 going.tallied

  pub going_opens : (path path' : List (List ℕ)) → (IsRule b n → IsTreated h K b targets n) → Opens name started (λ k j. begun (λ q. None) k j) b s d path path' n → IsRestarting started fits begun h K b targets d fs r
  going_opens path path' treated opens = record {
    along = along_opens name started fits begun h K b targets fit s d n fs going.along path path' treated opens;
    tallied = tallied_opens path path' opens;
  }

module _ {J : Type 0} (name : J → List ℕ) (started : J → Bool) (fits : FitsOf J) (gives : GivesOf J) (begun : Truth → List ℕ → J → Type 0) (h : How) (K : SomeKept) (b : Book) (targets : List (List ℕ)) (laws : Laws name started fits gives begun h K b) (old new : Spots J) (k : List ℕ) (fs : List Finished) (r r' : Ledger) (going : IsRestarting started fits begun h K b targets old fs r) (ready : is_ready old (old k) ≡ true) where
  -- it stopped, and was given up
  module _ (fit : FitAll fits begun h b) (x : Stuck) (anew : IsRenewed name started gives (λ i j. begun (λ q. None) i j) b old new r r' k x) where
    core_mid : IsCore fits b anew.mid
    core_mid = laws.keeps old anew.mid r r' k None (x, anew.turned) going.along.known.core

    -- the stop is at a need
    pub need_mid : Among (needs b k) (name_of x)
    need_mid = (core_mid.slots k (Stopped anew.turned.after (name_of x)) (stood_mid name started gives (λ i j. begun (λ q. None) i j) b old new r r' k x anew)).1

    along_mid : IsAlong fits begun h K b targets anew.mid fs
    along_mid = along_stopped name started fits gives begun h K b targets laws.goes_on (seen_in b anew.turned.mid) old anew.mid k fs r r' going.along core_mid x (turn_driven name started fits gives begun h K b targets old anew.mid k r r' going.along.known (Err x) anew.turned)

    pub going_anew : IsRestarting started fits begun h K b targets new fs r'
    going_anew =
        let begins = λ (i : List ℕ) (j : J). begun (λ q. None) i j in
        let rules = going.along.known.core.rules in
        record {
          along = along_anew fits begun h K b targets fit anew.mid new k (name_of x) anew.turned.after anew.job fs along_mid (stood_mid name started gives begins b old new r r' k x anew) anew.begun anew.put;
          tallied = tallied_stop started b old new k anew.turned.before anew.turned.after (ran_in fs) r r' going.tallied anew.turned.stood ready x anew.job (anew_put name started gives begins b old new r r' k x anew) anew.idle (job_there (old k) anew.turned.before anew.turned.stood) need_mid (anew_rule name started gives begins b old new r r' k x anew rules) (anew_undone name started gives begins b old new r r' k x anew rules) anew.turned.counted;
        }

  -- it ended
  pub going_ended : (m : Made) (fs' : List Finished) → TurnedTo name started gives b old new r r' k (Ok m) → EndsKey h b fs fs' m → IsRestarting started fits begun h K b targets new fs' r'
  going_ended m fs' turned ends =
      let core = laws.keeps old new r r' k (Some m) turned going.along.known.core in
      let driven = turn_driven name started fits gives begun h K b targets old new k r r' going.along.known (Ok m) turned in record {
        along = along_ended name started fits gives begun h K b targets laws.goes_on (seen_in b turned.mid) old new k fs r r' going.along core m fs' driven ends;
        tallied = subst (λ ran. IsTallied started b new ran r') (sym (ran_ended name started fits gives begun h K b targets laws.goes_on (seen_in b turned.mid) old new k fs r r' going.along core m fs' driven ends)) (tallied_end started b old new k turned.before turned.after (ran_in fs) r r' going.tallied turned.stood ready m (turn_put name started gives b old new r r' k (Ok m) turned) (job_there (old k) turned.before turned.stood) turned.counted);
      }

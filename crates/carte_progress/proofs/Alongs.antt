-- What is known of a bench where a slot is put at a key that wasn't done.
use Rattle.std.proofs.Common.{◌≡◌, ℕ, Bool, true, false, List, [], Option, Some, None, refl, sym, ◌∙◌, subst, inl, inr}
use Rattle.carte_value.specs.Once.{Answers}
use Rattle.carte_value.specs.Truths.{Truth, Extends}
use Rattle.carte_value.proofs.Members.{same_or_not}
use Rattle.carte_effect.specs.declared.outcome.Made.{Made}
use Rattle.carte_effect.specs.Jobs.{Step}
use Rattle.carte_effect.specs.Ledger.{Ledger}
use Rattle.carte_bench.specs.Turns.{Turned}
use Rattle.carte_book.specs.Book.{Book, clean}
use Rattle.carte_book.specs.Needs.{IsRule, needs}
use Rattle.carte_record.specs.Kept.{SomeKept}
use Rattle.carte_sound.specs.Held.{How, IsFollowed}
use Rattle.carte_sound.specs.Treated.{IsTreated}
use Rattle.carte_note.specs.declared.finished.Finished.{Finished}
use Rattle.carte_rebuild.specs.Goes.{IsPart, may_ask, AreThere, AreThereBefore, GoesOver}
use Rattle.carte_bench.specs.declared.slot.Slot.{Slot}
use Rattle.carte_bench.specs.declared.slot.Slot.TheVariants.{Ready, Stopped}
use Rattle.carte_bench.specs.Spots.{Spots, PutAt, IsSame, job_in, is_done, seen_in}
use Rattle.carte_bench.specs.Steps.{FitsOf, GivesOf, FitsSlot, IsCore}
use Rattle.carte_bench.proofs.Cores.{put_core, none_core, same_core}
use Rattle.carte_bench.proofs.Puts.{put_here, put_apart}
use Rattle.carte_bench.proofs.Turning.{jobs_put}
use Rattle.carte_progress.specs.Progress.{IsBegun, IsKnown, AreListed, IsAlong}
use Rattle.carte_progress.specs.Opening.{Demands, Opens}
use Rattle.carte_progress.proofs.Puts.{stood_before, undone_none}
use Rattle.carte_progress.proofs.Seeing.{there_more, before_more, seen_put}

-- each job goes on as it was begun
abbrev pub GoOn : {J : Type 0} → GivesOf J → (Truth → List ℕ → J → Type 0) → How → SomeKept → Book → Type 0
GoOn {J = J} gives begun h K b = (t : Truth) (k : List ℕ) (p : J) (part : Truth) (further : Answers) (step : Step) (q : J) → begun t k p → Extends t part → IsPart b part → gives p part further step q → GoesOver h K b k part (λ u j. begun u k j) step q

-- what a scheduler knows of jobs
pub record Laws {J : Type 0} (name : J → List ℕ) (started : J → Bool) (fits : FitsOf J) (gives : GivesOf J) (begun : Truth → List ℕ → J → Type 0) (h : How) (K : SomeKept) (b : Book) : Type 0 where
  pub keeps : (old new : Spots J) (r t : Ledger) (k : List ℕ) (m : Option Made) → Turned name started gives b old new r t k m → IsCore fits b old → IsCore fits b new
  pub goes_on : GoOn gives begun h K b

module _ {J : Type 0} (fits : FitsOf J) (begun : Truth → List ℕ → J → Type 0) (h : How) (K : SomeKept) (b : Book) (targets : List (List ℕ)) where
  -- what is to be known of a slot that is put
  pub record IsKnownAt (d : Spots J) (k : List ℕ) (x : Slot J) : Type 0 where
    pub is_rule : IsRule b k
    pub fit : FitsSlot fits b k x
    pub jobs : (j : J) → job_in (Some x) ≡ Some j → IsBegun begun b d k j
    pub treated : IsTreated h K b targets k
    pub stops : (n : List ℕ) (p : J) → Some x ≡ Some (Stopped p n) → IsFollowed h K b k × AreThereBefore b (seen_in b d) k n
    pub done : is_done (Some x) ≡ true → IsFollowed h K b k → AreThere b (seen_in b d) k

  module _ (s d : Spots J) (k : List ℕ) (x : Slot J) (put : PutAt s d k x) (undone : is_done (s k) ≡ false) where
    grows : Extends (seen_in b s) (seen_in b d)
    grows = seen_put b s d k x put (undone_none (s k) undone)

    -- the slot that stands at the key
    stands_here : (q : List ℕ) (y : Option (Slot J)) → k ≡ q → d q ≡ y → Some x ≡ y
    stands_here q y same is = sym (put_here s d k x put) ∙ (subst (λ i. d i ≡ y) (sym same) is)

    pub known_at : IsKnown fits begun h K b targets s → IsKnownAt d k x → IsKnown fits begun h K b targets d
    known_at known here = record {
      core = put_core fits b s d k x known.core here.is_rule here.fit put;
      jobs = jobs_put (λ q j. IsBegun begun b d q j) s d k x put (λ q j is. (let old = known.jobs q j is in (old.0, (λ i v has. grows i v (old.1 i v has)), old.2))) here.jobs;
      treated = λ q y is. elim (same_or_not k q) [
        | inl same ↦ subst (IsTreated h K b targets) same here.treated
        | inr other ↦ known.treated q y (stood_before s d k x q (Some y) put other is)
      ];
      stops = λ q n p is. elim (same_or_not k q) [
        | inl same ↦ subst (λ i. IsFollowed h K b i × AreThereBefore b (seen_in b d) i n) same (here.stops n p (stands_here q (Some (Stopped p n)) same is))
        | inr other ↦ (let old = known.stops q n p (stood_before s d k x q (Some (Stopped p n)) put other is) in (old.0, before_more b (seen_in b s) (seen_in b d) q n grows old.1))
      ];
      done = λ q is. elim (same_or_not k q) [
        | inl same ↦ subst (λ i. IsFollowed h K b i → AreThere b (seen_in b d) i) same (here.done (subst (λ o. is_done o ≡ true) (sym (stands_here q (d q) same refl)) is))
        | inr other ↦ (λ followed. there_more b (seen_in b s) (seen_in b d) q grows (known.done q (rw (put_apart s d k x q other put) at is) followed))
      ];
    }

    -- where nothing was finished
    pub listed_same : (fs : List Finished) → AreListed h K b s fs → is_done (Some x) ≡ false → AreListed h K b d fs
    listed_same fs listed open_here = record {
      right = listed.right;
      order = listed.order;
      once = listed.once;
      listed = λ q is. elim (same_or_not k q) [
        | inl same ↦ (let both : true ≡ false = sym (subst (λ o. is_done o ≡ true) (sym (stands_here q (d q) same refl)) is) ∙ open_here in cc)
        | inr other ↦ listed.listed q (rw (put_apart s d k x q other put) at is)
      ];
      only = λ q here. elim (same_or_not k q) [
        | inl same ↦ (let both : true ≡ false = sym (listed.only q here) ∙ rw (← same) undone in cc)
        | inr other ↦ rw (put_apart s d k x q other put) (listed.only q here)
      ];
    }

-- nothing is known of an empty bench but that
pub along_none : {J : Type 0} (fits : FitsOf J) (begun : Truth → List ℕ → J → Type 0) (h : How) (K : SomeKept) (b : Book) (targets : List (List ℕ)) (s : Spots J) → IsSame (λ q. None) s → IsAlong fits begun h K b targets s []
along_none fits begun h K b targets s none = record {
  known = record {
    core = none_core fits b s none;
    jobs = λ k j is. (let both : None ≡ Some j = rw (none k) at is in cc);
    treated = λ k x is. (let both : None ≡ Some x = sym (none k) ∙ is in cc);
    stops = λ k n p is. (let both : None ≡ Some (Stopped p n) = sym (none k) ∙ is in cc);
    done = λ k is. (let both : false ≡ true = rw (none k) at is in cc);
  };
  finished = record {
    right = tt;
    order = tt;
    once = tt;
    listed = λ k is. (let both : false ≡ true = rw (none k) at is in cc);
    only = λ k here. absurd here;
  };
}

-- what it is to know that jobs fit
abbrev pub FitAll : {J : Type 0} → FitsOf J → (Truth → List ℕ → J → Type 0) → How → Book → Type 0
FitAll {J = J} fits begun h b = (t : Truth) (k : List ℕ) (j : J) → begun t k j → fits j (clean b) k (clean b k) (needs b k) (may_ask h b k)

module _ {J : Type 0} (name : J → List ℕ) (started : J → Bool) (fits : FitsOf J) (begun : Truth → List ℕ → J → Type 0) (h : How) (K : SomeKept) (b : Book) (targets : List (List ℕ)) (fit : FitAll fits begun h b) (s d : Spots J) (n : List ℕ) (fs : List Finished) (along : IsAlong fits begun h K b targets s fs) where
  -- nothing changed
  pub along_same : IsSame s d → IsAlong fits begun h K b targets d fs
  along_same same = record {
    known = record {
      core = same_core fits b s d same along.known.core;
      jobs = λ k j is. (let old = along.known.jobs k j (rw (same k) at is) in (old.0, (λ i v has. sees i v (old.1 i v has)), old.2));
      treated = λ k x is. along.known.treated k x (sym (same k) ∙ is);
      stops = λ k m p is. (let old = along.known.stops k m p (sym (same k) ∙ is) in (old.0, before_more b (seen_in b s) (seen_in b d) k m sees old.1));
      done = λ k is followed. there_more b (seen_in b s) (seen_in b d) k sees (along.known.done k (rw (same k) at is) followed);
    };
    finished = record {
      right = along.finished.right;
      order = along.finished.order;
      once = along.finished.once;
      listed = λ k is. along.finished.listed k (rw (same k) at is);
      only = λ k here. rw (same k) (along.finished.only k here);
    };
  }
    where
      sees : Extends (seen_in b s) (seen_in b d)
      sees i v has = rw (same i) has

  pub along_demand : (path path' : List (List ℕ)) → IsTreated h K b targets n → Demands name started (λ k j. begun (λ q. None) k j) b s d path path' n → IsAlong fits begun h K b targets d fs
  along_demand path path' treated demands = record {
    known = known_at fits begun h K b targets s d n (Ready demands.job) demands.put undone along.known (record {
      is_rule = demands.fresh.0;
      fit = (may_ask h b n, fit (λ q. None) n demands.job demands.begun);
      jobs = λ j is. (let same : demands.job ≡ j = cc in ((λ q. None), (λ i v has. cc), subst (begun (λ q. None) n) same demands.begun));
      treated = treated;
      stops = λ m p is. cc;
      done = λ is. cc;
    });
    finished = listed_same fits begun h K b targets s d n (Ready demands.job) demands.put undone fs along.finished refl;
  }
    where
      undone : is_done (s n) ≡ false
      undone = rw demands.fresh.1 refl

  pub along_opens : (path path' : List (List ℕ)) → (IsRule b n → IsTreated h K b targets n) → Opens name started (λ k j. begun (λ q. None) k j) b s d path path' n → IsAlong fits begun h K b targets d fs
  along_opens path path' treated (inl demands) = along_demand path path' (treated demands.fresh.0) demands
  along_opens path path' treated (inr leaves) = along_same leaves.1

-- What is known after a drive.
use Rattle.std.proofs.Common.{◌≡◌, ◌⊎◌, ℕ, Bool, true, false, cond, List, [], ◌∷◌, ◌++◌, Some, Result, Ok, Err, refl, ap, sym, ◌∙◌, subst, inl, inr}
use Rattle.carte_value.specs.Truths.{Truth, Extends, Among, HasValue}
use Rattle.carte_value.proofs.Members.{same_or_not, among_left, among_right}
use Rattle.carte_effect.specs.declared.look.Stuck.{Stuck}
use Rattle.carte_effect.specs.declared.outcome.Made.{Made}
use Rattle.carte_effect.specs.declared.outcome.Made.TheVariants.{Ran, Reused}
use Rattle.carte_effect.specs.Jobs.{outcome_of}
use Rattle.carte_effect.specs.Ledger.{Ledger}
use Rattle.carte_book.specs.Book.{Book}
use Rattle.carte_book.specs.Needs.{IsRule}
use Rattle.carte_record.specs.Kept.{SomeKept}
use Rattle.carte_sound.specs.Finished.{RanOrHeld, IsFinishedAfter}
use Rattle.carte_sound.specs.Held.{How, gathers, IsFollowed}
use Rattle.carte_sound.specs.Left.{keys_of}
use Rattle.carte_sound.specs.Treated.{IsTreated}
use Rattle.carte_note.specs.declared.finished.Finished.{Finished}
use Rattle.carte_note.specs.Right.{IsRightMade, IsRightFinished, finishes_of, has_run, key_of, keys_in, ran_in}
use Rattle.carte_rebuild.specs.Finishes.{HaveFinished, FinishesRight}
use Rattle.carte_rebuild.specs.Goes.{IsPart, AreThereBefore, GoesOver}
use Rattle.carte_bench.specs.declared.slot.Slot.{Slot}
use Rattle.carte_bench.specs.declared.slot.Slot.TheVariants.{Stopped, Out, Done}
use Rattle.carte_bench.specs.Spots.{Spots, PutAt, is_done, job_in, name_of, slot_after, seen_in}
use Rattle.carte_bench.specs.Steps.{FitsOf, GivesOf, FitsSlot, IsCore, step_of}
use Rattle.carte_bench.specs.Turns.{TurnedTo}
use Rattle.carte_bench.proofs.Cores.{sees_clean, sees_inputs}
use Rattle.carte_bench.proofs.Puts.{put_here, put_apart}
use Rattle.carte_bench.proofs.Turning.{turn_gave}
use Rattle.carte_progress.specs.Progress.{IsKnown, AreListed, IsAlong}
use Rattle.carte_progress.specs.Driven.{IsDriven}
use Rattle.carte_progress.specs.Opening.{EndsKey}
use Rattle.carte_progress.proofs.Puts.{job_undone, job_there, undone_none, not_both}
use Rattle.carte_progress.proofs.Seeing.{there_more, before_more, seen_put, seen_back, seen_done}
use Rattle.carte_progress.proofs.Listing.{finishes_end, keys_end, keys_same, ran_end, ran_keys, once_end, among_end, right_end, order_end, found_right}
use Rattle.carte_progress.proofs.Alongs.{GoOn, known_at, listed_same}
use Rattle.carte_progress.proofs.Turned.{turn_put}

-- whether it ran tells whether it was held
came_so : (h : How) (K : SomeKept) (b : Book) (k : List ℕ) (m : Made) → IsRightMade h K b k m → RanOrHeld h K b k (has_run m)
came_so h K b k (Ran o) made = made.came.0
came_so h K b k (Reused o) made = made.came.0

ran_followed : (h : How) (K : SomeKept) (b : Book) (k : List ℕ) (m : Made) → IsRightMade h K b k m → has_run m ≡ true → IsFollowed h K b k
ran_followed h K b k (Ran o) made is = λ held. absurd (made.came.0 held)
ran_followed h K b k (Reused o) made is = cc

module _ {J : Type 0} (name : J → List ℕ) (started : J → Bool) (fits : FitsOf J) (gives : GivesOf J) (begun : Truth → List ℕ → J → Type 0) (h : How) (K : SomeKept) (b : Book) (targets : List (List ℕ)) (go_on : GoOn gives begun h K b) (t : Truth) (old new : Spots J) (k : List ℕ) (fs : List Finished) (r r' : Ledger) (along : IsAlong fits begun h K b targets old fs) (core : IsCore fits b new) where
  module _ (o : Result Made Stuck) (driven : IsDriven name started gives begun b t old new r r' k o) where
    undone : is_done (old k) ≡ false
    undone = job_undone (old k) driven.drove.before driven.drove.stood

    there : (x : Slot J) × (old k ≡ Some x)
    there = job_there (old k) driven.drove.before driven.drove.stood

    is_rule : IsRule b k
    is_rule = along.known.core.rules k there.0 there.1

    put : PutAt old new k (slot_after driven.drove.after o)
    put = driven.drove.put

    sees_new : Extends t (seen_in b new)
    sees_new i v has = seen_put b old new k (slot_after driven.drove.after o) put (undone_none (old k) undone) i v (driven.over.part i v has)

    part : IsPart b t
    part = record {
      part = λ i v has. sees_clean fits b old along.known.core i v (driven.over.part i v has);
      inputs = driven.over.inputs;
    }

    -- what the law of the job gives
    goes : GoesOver h K b k t (λ u j. begun u k j) (step_of o) driven.drove.after
    goes = go_on driven.begins.0 k driven.drove.before t driven.drove.further (step_of o) driven.drove.after driven.begins.2 driven.begins.1 part driven.drove.gave

    fit : (x : Slot J) → new k ≡ Some x → FitsSlot fits b k x
    fit x is = core.slots k x is

    treated : IsTreated h K b targets k
    treated = along.known.treated k there.0 there.1

    new_key : ¬ (Among (keys_in fs) k)
    new_key here = not_both (old k) (along.finished.only k here) undone

    -- a rule that has a value by now was finished before
    finished_before : (j : List ℕ) → IsRule b j → HasValue t j → Among (keys_in fs) j
    finished_before j is (v, has) = along.finished.listed j (seen_done b old j is (v, driven.over.part j v has))

  -- it stopped
  pub along_stopped : (x : Stuck) → IsDriven name started gives begun b t old new r r' k (Err x) → IsAlong fits begun h K b targets new fs
  along_stopped x driven =
      let over = goes (Err x) driven in
      record {
        known = known_at fits begun h K b targets old new k (Stopped driven.drove.after (name_of x)) (put (Err x) driven) (undone (Err x) driven) along.known (record {
          is_rule = is_rule (Err x) driven;
          fit = fit (Err x) driven (Stopped driven.drove.after (name_of x)) (put_here old new k (Stopped driven.drove.after (name_of x)) (put (Err x) driven));
          jobs = λ j is. (let same : driven.drove.after ≡ j = cc in (t, sees_new (Err x) driven, subst (begun t k) same over.0));
          treated = treated (Err x) driven;
          stops = λ n p is. (let same : name_of x ≡ n = cc in (over.1, before_more b t (seen_in b new) k n (sees_new (Err x) driven) (subst (AreThereBefore b t k) same over.2)));
          done = λ is. cc;
        });
        finished = listed_same fits begun h K b targets old new k (Stopped driven.drove.after (name_of x)) (put (Err x) driven) (undone (Err x) driven) fs along.finished refl;
      }

  -- the rules that a key asked for were finished before it
  module _ (f : Finished) (driven : IsDriven name started gives begun b t old new r r' k (Ok f.made)) (right : FinishesRight h b fs f.made f) where
    made : IsRightMade h K b k f.made
    made = (goes (Ok f.made) driven).0

    have : gathers h ≡ true → has_run f.made ≡ true → HaveFinished h K b fs k
    have gathering ran j need rule_there = found_right h K b fs j along.finished.right (finished_before (Ok f.made) driven j rule_there ((goes (Ok f.made) driven).1 (ran_followed h K b k f.made made ran) j need))

    right_here : IsRightFinished h K b k f
    right_here = right K k made have

    behind : (ks : List (List ℕ)) → ((j : List ℕ) → Among [] j ⊎ Among (keys_of (finishes_of fs)) j → Among ks j) → IsFinishedAfter h b K ks (key_of f) (has_run f.made)
    behind ks all = subst (λ i. IsFinishedAfter h b K ks i (has_run f.made)) (sym made.key) (record {
      is_rule = is_rule (Ok f.made) driven;
      clean = ((outcome_of f.made).value, made.value);
      came = came_so h K b k f.made made;
      order = λ followed j need rule_there. all j (inr (subst (λ ls. Among ls j) (sym (keys_same fs)) (finished_before (Ok f.made) driven j rule_there ((goes (Ok f.made) driven).1 followed j need))));
    })

    is_here : new k ≡ Some (Done f.made)
    is_here = put_here old new k (Done f.made) (put (Ok f.made) driven)

    listed : AreListed h K b new (fs ++ f ∷ [])
    listed = record {
      right = right_end h K b fs f along.finished.right (subst (λ i. IsRightFinished h K b i f) (sym made.key) right_here);
      order = rw (finishes_end fs f) (order_end h K b [] (finishes_of fs) (key_of f) (has_run f.made) along.finished.order behind);
      once = rw (keys_end fs f) (once_end (keys_in fs) (key_of f) along.finished.once (subst (λ i. ¬ (Among (keys_in fs) i)) (sym made.key) (new_key (Ok f.made) driven)));
      listed = λ q is. rw (keys_end fs f) (elim (same_or_not k q) [
        | inl same ↦ among_right (keys_in fs) (key_of f ∷ []) q (inl (sym same ∙ sym made.key))
        | inr other ↦ among_left (keys_in fs) (key_of f ∷ []) q (along.finished.listed q (rw (put_apart old new k (Done f.made) q other (put (Ok f.made) driven)) at is))
      ]);
      only = λ q here. elim (among_end (keys_in fs) (key_of f) q (rw (keys_end fs f) at here)) [
        | inl before ↦ elim (same_or_not k q) [
          | inl same ↦ absurd (new_key (Ok f.made) driven (subst (Among (keys_in fs)) (sym same) before))
          | inr other ↦ rw (put_apart old new k (Done f.made) q other (put (Ok f.made) driven)) (along.finished.only q before)
        ]
        | inr last ↦ rw (last, made.key, is_here) refl
      ];
    }

    -- it ended
    ended : IsAlong fits begun h K b targets new (fs ++ f ∷ [])
    ended = record {
      known = known_at fits begun h K b targets old new k (Done f.made) (put (Ok f.made) driven) (undone (Ok f.made) driven) along.known (record {
        is_rule = is_rule (Ok f.made) driven;
        fit = fit (Ok f.made) driven (Done f.made) is_here;
        jobs = λ j is. cc;
        treated = treated (Ok f.made) driven;
        stops = λ n p is. cc;
        done = λ is followed. there_more b t (seen_in b new) k (sees_new (Ok f.made) driven) ((goes (Ok f.made) driven).1 followed);
      });
      finished = listed;
    }

  pub along_ended : (m : Made) (fs' : List Finished) → IsDriven name started gives begun b t old new r r' k (Ok m) → EndsKey h b fs fs' m → IsAlong fits begun h K b targets new fs'
  along_ended m fs' driven (f, is, same, right) =
      rw is (ended f (subst (λ i. IsDriven name started gives begun b t old new r r' k (Ok i)) (sym same) driven) (subst (λ i. FinishesRight h b fs i f) (sym same) right))

  -- it is among those that ran where it has run
  pub ran_ended : (m : Made) (fs' : List Finished) → IsDriven name started gives begun b t old new r r' k (Ok m) → EndsKey h b fs fs' m → ran_in fs' ≡ ran_in fs ++ cond (has_run m) (k ∷ []) []
  ran_ended m fs' driven (f, is, same, right) =
      let key : key_of f ≡ k = (made f (subst (λ i. IsDriven name started gives begun b t old new r r' k (Ok i)) (sym same) driven) (subst (λ i. FinishesRight h b fs i f) (sym same) right)).key in
      ap ran_in is ∙ ran_end fs f ∙ ap (λ i. ran_in fs ++ cond (has_run f.made) (i ∷ []) []) key ∙ ap (λ i. ran_in fs ++ cond (has_run i) (k ∷ []) []) same

-- a key with a job hasn't run
pub not_run : {J : Type 0} (fits : FitsOf J) (begun : Truth → List ℕ → J → Type 0) (h : How) (K : SomeKept) (b : Book) (targets : List (List ℕ)) (s : Spots J) (fs : List Finished) (k : List ℕ) (along : IsAlong fits begun h K b targets s fs) (j : J) → job_in (s k) ≡ Some j → ¬ (Among (ran_in fs) k)
not_run fits begun h K b targets s fs k along j is here = not_both (s k) (along.finished.only k (ran_keys fs k here)) (job_undone (s k) j is)

-- what a waiting key waits for is treated, where it is a rule
pub stop_treated : {J : Type 0} (fits : FitsOf J) (begun : Truth → List ℕ → J → Type 0) (h : How) (K : SomeKept) (b : Book) (targets : List (List ℕ)) (s : Spots J) (k n : List ℕ) (p : J) → IsKnown fits begun h K b targets s → s k ≡ Some (Stopped p n) → IsRule b n → IsTreated h K b targets n
stop_treated fits begun h K b targets s k n p known is rule_there = IsTreated.need (known.treated k (Stopped p n) is) (known.stops k n p is).0 (known.core.slots k (Stopped p n) is).1 rule_there

-- a turn is a drive over all that is done
module _ {J : Type 0} (name : J → List ℕ) (started : J → Bool) (fits : FitsOf J) (gives : GivesOf J) (begun : Truth → List ℕ → J → Type 0) (h : How) (K : SomeKept) (b : Book) (targets : List (List ℕ)) (old new : Spots J) (k : List ℕ) (r r' : Ledger) (known : IsKnown fits begun h K b targets old) where
  pub turn_driven : (o : Result Made Stuck) (turned : TurnedTo name started gives b old new r r' k o) → IsDriven name started gives begun b (seen_in b turned.mid) old new r r' k o
  turn_driven o turned = record {
    drove = record {
      before = turned.before;
      after = turned.after;
      further = turned.gave.further;
      stood = turned.stood;
      gave = turn_gave name started gives b old new r r' k o turned;
      named = turned.named;
      put = turn_put name started gives b old new r r' k o turned;
      counted = turned.counted;
    };
    over = record {
      part = λ i v has. seen_before i v has;
      inputs = λ i v is. sees_inputs b turned.mid i v is;
    };
    begins = (let job = known.jobs k turned.before turned.stood in (job.0, (λ i v has. sees_mid i v (job.1 i v has)), job.2));
  }
    where
      undone : is_done (old k) ≡ false
      undone = job_undone (old k) turned.before turned.stood

      sees_mid : Extends (seen_in b old) (seen_in b turned.mid)
      sees_mid = seen_put b old turned.mid k Out turned.out (undone_none (old k) undone)

      seen_before : Extends (seen_in b turned.mid) (seen_in b old)
      seen_before = seen_back b old turned.mid k Out turned.out refl

-- What work that is done rightly has made.
use Rattle.std.proofs.Common.{◌≡◌, ℕ, ◌≤◌, Bool, true, false, cond, List, [], ◌∷◌, Option, Some, None, length, refl, ap, sym, ◌∙◌, subst, inl, inr, arith}
use Rattle.carte_name.specs.Names.{name_eq}
use Rattle.carte_value.specs.Truths.{Among, IsListOf, NoneTwice}
use Rattle.carte_value.specs.declared.value.Value.{Value}
use Rattle.carte_value.proofs.Members.{no_longer}
use Rattle.carte_effect.specs.Ledger.{given_up as left_open}
use Rattle.carte_effect.specs.declared.outcome.Made.{Made}
use Rattle.carte_effect.specs.declared.outcome.Made.TheVariants.{Ran, Reused}
use Rattle.carte_book.specs.Book.{Book, Item, input, rule, content, clean}
use Rattle.carte_book.specs.Reason.{AllClean, IsClean}
use Rattle.carte_book.proofs.Clean.{clean_input, clean_nothing}
use Rattle.carte_record.specs.Kept.{SomeKept}
use Rattle.carte_table.proofs.Names.{name_eq_is}
use Rattle.carte_sound.specs.Begun.{Beginning, IsBeginning, begin}
use Rattle.carte_sound.specs.Chains.{IsRightChain}
use Rattle.carte_sound.specs.Held.{How, IsHeld}
use Rattle.carte_sound.specs.Left.{keys_of}
use Rattle.carte_sound.specs.Treated.{IsTreatedRestarting}
use Rattle.carte_note.specs.declared.finished.Finished.{Finished}
use Rattle.carte_note.specs.Lists.{finished_of}
use Rattle.carte_note.specs.Right.{AreRight, IsRightFinished, IsRightMade, finishes_of, has_run, key_of, ran_in}
use Rattle.carte_rebuild.specs.declared.work.Work.{Work}
use Rattle.carte_rebuild.specs.Ends.{AllEnded, GivesUp, IsWork, NothingGivenUp}
use Rattle.carte_engine.specs.Answers.{AreValues, GivesFewUp, HasEnded, HasStarted, IsSuccess, StartsBy}
use Rattle.carte_engine.specs.Reckoned.{IsReckoned, value_at, value_found, value_made}
use Rattle.carte_engine.specs.Schedulers.{IsDoneBy, IsServed}
use Rattle.carte_engine.specs.declared.answer.Built.{Built}
use Rattle.carte_engine.specs.declared.scheduler.Scheduler.{Scheduler}
use Rattle.carte_engine.specs.declared.scheduler.Scheduler.TheVariants.{Topological, Restarting, Suspending}
use Rattle.carte_engine.proofs.Counting.{none_given_up}
use Rattle.carte_engine.specs.Sorted.{sorted}
use Rattle.carte_engine.proofs.Sorting.{rising_once, same_length, sorted_list}

module _ (h : How) (M : SomeKept) (b : Book) where
  -- a finished key that is found is right
  right_of : (fs : List Finished) (k : List ℕ) (f : Finished) → AreRight h M b fs → finished_of fs k ≡ Some f → IsRightFinished h M b k f
  right_of [] k f right is = cc
  right_of (g ∷ gs) k f right is = on (name_eq k (key_of g)) refl is (right_of gs k f right.1)
    where
      on : (t : Bool) → name_eq k (key_of g) ≡ t → cond t (Some g) (finished_of gs k) ≡ Some f → (finished_of gs k ≡ Some f → IsRightFinished h M b k f) → IsRightFinished h M b k f
      on true same is rest =
          let e : g ≡ f = cc in
          subst (IsRightFinished h M b k) e (subst (λ j. IsRightFinished h M b j g) (sym (name_eq_is k (key_of g) same)) right.0)
      on false apart is rest = rest is

  -- a value that is found is clean, where there is a clean one
  found_clean : (fs : List Finished) (k : List ℕ) (v : Value) → AreRight h M b fs → IsClean b k → value_found b fs k ≡ Some v → clean b k ≡ Some v
  found_clean fs k v right is_clean found = on (content b k) refl found
    where
      made : (o : Option Finished) → finished_of fs k ≡ o → value_made o ≡ Some v → clean b k ≡ Some v
      made None none is = cc
      made (Some f) there is = (right_of fs k f right there).made.value ∙ is

      on : (o : Option Item) → content b k ≡ o → value_at o (finished_of fs k) ≡ Some v → clean b k ≡ Some v
      on None none is = absurd (let e : Some is_clean.0 ≡ None = sym is_clean.1 ∙ clean_nothing b k none in cc)
      on (Some (input u)) there is = clean_input b k u there ∙ is
      on (Some (rule e)) there is = made (finished_of fs k) refl is

  -- and all of them
  all_clean : (fs : List Finished) (ks : List (List ℕ)) (vs : List Value) → AreRight h M b fs → AllClean b ks → AreValues (value_found b fs) ks vs → AreValues (clean b) ks vs
  all_clean fs [] [] right clean_ones found = tt
  all_clean fs [] (v ∷ vs) right clean_ones found = absurd found
  all_clean fs (k ∷ ks) [] right clean_ones found = absurd found
  all_clean fs (k ∷ ks) (v ∷ vs) right clean_ones found = (found_clean fs k v right clean_ones.0 found.0, all_clean fs ks vs right clean_ones.1 found.1)

  -- exactly those that aren't held ran
  pub ran_only : (fs : List Finished) (k : List ℕ) → AreRight h M b fs → Among (ran_in fs) k → Among (keys_of (finishes_of fs)) k × ¬ (IsHeld h M b k)
  ran_only [] k right nowhere = absurd nowhere
  ran_only (f ∷ fs) k right there = on f.made right.0.made there (ran_only fs k right.1)
    where
      on : (m : Made) → IsRightMade h M b (key_of f) m → Among (cond (has_run m) (key_of f ∷ ran_in fs) (ran_in fs)) k → (Among (ran_in fs) k → Among (keys_of (finishes_of fs)) k × ¬ (IsHeld h M b k))
          → Among (keys_of (finishes_of (f ∷ fs))) k × ¬ (IsHeld h M b k)
      on (Ran o) made (inl same) rest = (inl same, λ held. made.came.0 (subst (IsHeld h M b) same held))
      on (Ran o) made (inr later) rest = let x = rest later in (inr x.0, x.1)
      on (Reused o) made later rest = let x = rest later in (inr x.0, x.1)

  pub ran_each : (fs : List Finished) (k : List ℕ) → AreRight h M b fs → Among (keys_of (finishes_of fs)) k → ¬ (IsHeld h M b k) → Among (ran_in fs) k
  ran_each [] k right nowhere unheld = absurd nowhere
  ran_each (f ∷ fs) k right among unheld = on f.made right.0.made among (λ later. ran_each fs k right.1 later unheld)
    where
      on : (m : Made) → IsRightMade h M b (key_of f) m → Among (keys_of (finishes_of (f ∷ fs))) k → (Among (keys_of (finishes_of fs)) k → Among (ran_in fs) k) → Among (cond (has_run m) (key_of f ∷ ran_in fs) (ran_in fs)) k
      on (Ran o) made (inl same) rest = inl same
      on (Ran o) made (inr later) rest = inr (rest later)
      on (Reused o) made (inl same) rest = absurd (unheld (subst (IsHeld h M b) (sym same) made.came.0))
      on (Reused o) made (inr later) rest = rest later

  -- each once
  pub ran_once : (fs : List Finished) → AreRight h M b fs → NoneTwice (keys_of (finishes_of fs)) → NoneTwice (ran_in fs)
  ran_once [] right once = tt
  ran_once (f ∷ fs) right once = on f.made (ran_once fs right.1 once.1)
    where
      on : (m : Made) → NoneTwice (ran_in fs) → NoneTwice (cond (has_run m) (key_of f ∷ ran_in fs) (ran_in fs))
      on (Ran o) rest = ((λ again. once.0 (ran_only fs (key_of f) right.1 again).0), rest)
      on (Reused o) rest = rest

keys_length : (fs : List Finished) → length (keys_of (finishes_of fs)) ≡ length fs
keys_length [] = refl
keys_length (f ∷ fs) = omega (arith, keys_length fs)

-- what is served has clean values
served_clean : (s : Scheduler) (b : Book) (targets : List (List ℕ)) → IsServed s b targets → AllClean b targets
served_clean Topological b targets served = served.1
served_clean Restarting b targets served = served
served_clean Suspending b targets served = served

-- what has ended has run
has_ended : (h : How) (M : SomeKept) (b : Book) (targets : List (List ℕ)) (done : List ℕ → Type 0) (w : Work) (built : Built) → IsWork h M b done w → IsReckoned b targets w built → HasEnded built.ran built.runs
has_ended h M b targets done w built work reckoned = rw reckoned.runs (record {
  once = subst NoneTwice (sym work.ends) (ran_once h M b w.finished work.right work.order.once);
  all = subst (λ ks. IsListOf (Among ks) built.ran) (sym work.ends) reckoned.ran;
})

-- nothing is given up where each task that was started has ended
pub starts_once : (h : How) (M : SomeKept) (b : Book) (targets : List (List ℕ)) (done : List ℕ → Type 0) (w : Work) (built : Built) → IsWork h M b done w → NothingGivenUp w → IsReckoned b targets w built
    → HasStarted built.ran built.runs × (built.given_up ≡ 0)
starts_once h M b targets done w built work nothing reckoned =
    let fewer : length w.runs.starts ≤ length w.runs.ends = no_longer w.runs.starts w.runs.ends nothing.once nothing.only in
    let ran : IsListOf (Among w.runs.ends) built.ran = subst (λ ks. IsListOf (Among ks) built.ran) (sym work.ends) reckoned.ran in (
      rw reckoned.runs (record {
        once = nothing.once;
        all = record {
          rising = ran.rising;
          only = λ k there. nothing.each k (ran.only k there);
          each = λ k there. ran.each k (nothing.only k there);
        };
      }),
      omega (arith, reckoned.given_up, fewer),
    )

-- where rules are begun anew the ledger of the work tells how few
pub gives_few : (h : How) (M : SomeKept) (b : Book) (targets : List (List ℕ)) (w : Work) (built : Built) → GivesUp b targets (IsTreatedRestarting h M b targets) w.runs
    → (IsRightChain M b targets → AllEnded w.runs) → IsReckoned b targets w built → GivesFewUp h M b targets built
gives_few h M b targets w built few straight reckoned = record {
  few = subst (GivesUp b targets (IsTreatedRestarting h M b targets)) (sym reckoned.runs) few;
  none = λ right. reckoned.given_up ∙ none_given_up w.runs (straight right);
}

pub succeeds : (s : Scheduler) (h : How) (K : SomeKept) (b : Book) (targets : List (List ℕ)) (x : Beginning) (w : Work) (built : Built) → IsBeginning K b x → IsServed s b targets
    → IsWork h (begin K x) b (IsDoneBy s h (begin K x) b targets) w → IsReckoned b targets w built → StartsBy s h (begin K x) b targets built → IsSuccess s h K b targets built
succeeds s h K b targets x w built begins served work reckoned starts =
    let M = begin K x in
    let fs = w.finished in
    let keys = keys_of (finishes_of fs) in
    let done = sorted_list keys in
    let fewer : length built.ran ≤ length keys = no_longer built.ran keys (rising_once built.ran reckoned.ran.rising) (λ k there. (ran_only h M b fs k work.right (reckoned.ran.only k there)).0) in
    let all : length keys ≡ length (sorted keys) = same_length keys (sorted keys) work.order.once (rising_once (sorted keys) done.rising) done.each done.only in
    record {
      served = served;
      values = all_clean h M b fs targets built.values work.right (served_clean s b targets served) reckoned.values;
      begun = x;
      begins = begins;
      ran = record {
        rising = reckoned.ran.rising;
        only = λ k there. let ran = ran_only h M b fs k work.right (reckoned.ran.only k there) in (work.order.only k ran.0, ran.1);
        each = λ k run. reckoned.ran.each k (ran_each h M b fs k work.right (work.order.each k run.0) run.1);
      };
      done = sorted keys;
      all_done = record {
        rising = done.rising;
        only = λ k there. work.order.only k (done.only k there);
        each = λ k is_done. done.each k (work.order.each k is_done);
      };
      count = omega (arith, reckoned.reused, fewer, all, keys_length fs);
      ended = has_ended h M b targets (IsDoneBy s h M b targets) w built work reckoned;
      started = starts;
      given_up = reckoned.given_up ∙ sym (ap left_open reckoned.runs);
    }

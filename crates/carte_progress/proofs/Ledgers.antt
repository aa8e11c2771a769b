-- What the ledger says of what has run, and of what is running.
use Rattle.std.proofs.Common.{◌≡◌, ◌⊎◌, ℕ, Bool, true, false, cond, not, ◌&&◌, List, [], ◌∷◌, ◌++◌, Some, None, Ok, Err, refl, ap, sym, ◌∙◌, subst, inl, inr}
use Rattle.std.proofs.lemmas.Bool.{cases_Bool}
use Rattle.carte_value.specs.Truths.{Among, NoneTwice}
use Rattle.carte_value.proofs.Members.{same_or_not, among_left, among_right, among_append}
use Rattle.carte_effect.specs.declared.look.Stuck.{Stuck}
use Rattle.carte_effect.specs.declared.outcome.Made.{Made}
use Rattle.carte_effect.specs.declared.outcome.Made.TheVariants.{Ran, Reused}
use Rattle.carte_effect.specs.Jobs.{Counted}
use Rattle.carte_effect.specs.Ledger.{Ledger}
use Rattle.carte_bench.specs.declared.slot.Slot.{Slot}
use Rattle.carte_bench.specs.declared.slot.Slot.TheVariants.{Ready, Stopped, Done}
use Rattle.carte_bench.specs.Spots.{Spots, PutAt, IsSame, job_in, name_of}
use Rattle.carte_bench.specs.Turns.{halted}
use Rattle.carte_bench.proofs.Puts.{put_here, put_apart}
use Rattle.carte_progress.specs.Counted.{IsRunning, IsCounted}
use Rattle.carte_note.specs.Right.{has_run}
use Rattle.carte_progress.proofs.Listing.{once_end, among_end}

module _ {J : Type 0} (started : J → Bool) (s d : Spots J) (k : List ℕ) (x : Slot J) (put : PutAt s d k x) where
  running_on : (q : List ℕ) → ¬ (k ≡ q) → IsRunning started s q → IsRunning started d q
  running_on q other (j, is, on) = (j, rw (put_apart s d k x q other put) is, on)

  running_before : (q : List ℕ) → ¬ (k ≡ q) → IsRunning started d q → IsRunning started s q
  running_before q other (j, is, on) = (j, rw (put_apart s d k x q other put) at is, on)

-- nothing changed
pub counted_same : {J : Type 0} (started : J → Bool) (s d : Spots J) (ran : List (List ℕ)) (r : Ledger) → IsSame s d → IsCounted started s ran r → IsCounted started d ran r
counted_same started s d ran r same counted = record {
  ends = counted.ends;
  once = counted.once;
  only = λ k here. elim (counted.only k here) [
    | inl there ↦ inl there
    | inr running ↦ inr (running.0, rw (same k) running.1, running.2)
  ];
  each = λ k here. counted.each k (elim here [
    | inl there ↦ inl there
    | inr running ↦ inr (running.0, rw (same k) at running.1, running.2)
  ]);
}

-- a job that wasn't started is put where there was none
pub counted_demand : {J : Type 0} (started : J → Bool) (s d : Spots J) (k : List ℕ) (j : J) (ran : List (List ℕ)) (r : Ledger) → IsCounted started s ran r → PutAt s d k (Ready j) → s k ≡ None → started j ≡ false → IsCounted started d ran r
counted_demand {J = J} started s d k j ran r counted put none idle = record {
  ends = counted.ends;
  once = counted.once;
  only = λ q here. elim (counted.only q here) [
    | inl there ↦ inl there
    | inr running ↦ elim (same_or_not k q) [
      | inl same ↦ (let both : None ≡ Some running.0 = rw (← same, none) at running.1 in cc)
      | inr other ↦ inr (running_on started s d k (Ready j) put q other running)
    ]
  ];
  each = λ q here. elim here [
    | inl there ↦ counted.each q (inl there)
    | inr running ↦ elim (same_or_not k q) [
      | inl same ↦ (let here : d q ≡ Some (Ready j) = subst (λ i. d i ≡ Some (Ready j)) same (put_here s d k (Ready j) put) in let one : Some j ≡ Some running.0 = rw here at running.1 in let both : true ≡ false = sym running.2 ∙ (rw (← one_of one) idle) in cc)
      | inr other ↦ counted.each q (inr (running_before started s d k (Ready j) put q other running))
    ]
  ];
}
  where
    one_of : {i l : J} → Some i ≡ Some l → i ≡ l
    one_of is = cc

-- the name once more, or not
abbrev added : Bool → List ℕ → List (List ℕ)
added t k = cond t (k ∷ []) []

added_among : (t : Bool) (k j : List ℕ) → Among (added t k) j → (t ≡ true) × (j ≡ k)
added_among true k j (inl same) = (refl, same)
added_among true k j (inr never) = absurd never
added_among false k j never = absurd never

nil_end : (ks : List (List ℕ)) → ks ++ [] ≡ ks
nil_end [] = refl
nil_end (j ∷ js) = ap (λ ks. j ∷ ks) (nil_end js)

both_true : (u t : Bool) → (u && t) ≡ true → u ≡ true
both_true true t is = refl
both_true false t is = cc

module _ {J : Type 0} (started : J → Bool) (s d : Spots J) (k : List ℕ) (x : Slot J) (p : J) (u : Bool) (ran ran' : List (List ℕ)) (r r' : Ledger) where
  -- what a drive leaves in the ledger and at the key
  pub record Leads : Type 0 where
    pub stood : job_in (s k) ≡ Some p
    pub put : PutAt s d k x
    pub new : ¬ (Among ran k)
    pub starts : r'.starts ≡ r.starts ++ added (u && not (started p)) k
    pub ends : r'.ends ≡ ran'
    pub more : (j : List ℕ) → Among ran j → Among ran' j
    pub fewer : (j : List ℕ) → Among ran' j → Among ran j ⊎ ((j ≡ k) × (u ≡ true))
    pub goes : (started p ≡ true) ⊎ (u ≡ true) → Among ran' k ⊎ IsRunning started d k
    pub runs : IsRunning started d k → u ≡ true

  module _ (counted : IsCounted started s ran r) (leads : Leads) where
    -- the job that stands at the key was started where the ledger has its start
    began : Among r.starts k → started p ≡ true
    began here = elim (counted.only k here) [
      | inl there ↦ absurd (leads.new there)
      | inr running ↦ (let one : Some p ≡ Some running.0 = sym leads.stood ∙ running.1 in let same : p ≡ running.0 = cc in rw same running.2)
    ]

    starts_once : (t : Bool) → started p ≡ t → (v : Bool) → NoneTwice (r.starts ++ added (v && not t) k)
    starts_once true is true = rw (nil_end r.starts) counted.once
    starts_once true is false = rw (nil_end r.starts) counted.once
    starts_once false is true = once_end r.starts k counted.once (λ here. let both : true ≡ false = sym (began here) ∙ is in cc)
    starts_once false is false = rw (nil_end r.starts) counted.once

    stays : (j : List ℕ) → Among r.starts j → Among r'.starts j
    stays j here = rw leads.starts (among_left r.starts (added (u && not (started p)) k) j here)

    -- a started job's start is counted
    has_start : u ≡ true → Among r'.starts k
    has_start is = elim (cases_Bool (started p)) [
      | inl on ↦ stays k (counted.each k (inr (p, leads.stood, on)))
      | inr idle ↦ rw (leads.starts, is, idle) (among_right r.starts (k ∷ []) k (inl refl))
    ]

    only_on : (j : List ℕ) → Among ran j ⊎ IsRunning started s j → (k ≡ j) ⊎ (¬ (k ≡ j)) → Among ran' j ⊎ IsRunning started d j
    only_on j (inl there) at = inl (leads.more j there)
    only_on j (inr running) (inl same) =
        let one : Some p ≡ Some running.0 = sym leads.stood ∙ subst (λ i. job_in (s i) ≡ Some running.0) (sym same) running.1 in
        let is : p ≡ running.0 = cc in
        subst (λ i. Among ran' i ⊎ IsRunning started d i) same (leads.goes (inl (rw is running.2)))
    only_on j (inr running) (inr other) = inr (running_on started s d k x leads.put j other running)

    each_on : (j : List ℕ) → Among ran' j ⊎ IsRunning started d j → (k ≡ j) ⊎ (¬ (k ≡ j)) → Among r'.starts j
    each_on j (inl there) at = elim (leads.fewer j there) [
      | inl before ↦ stays j (counted.each j (inl before))
      | inr last ↦ rw last.0 (has_start last.1)
    ]
    each_on j (inr running) (inl same) = subst (Among r'.starts) same (has_start (leads.runs (subst (IsRunning started d) (sym same) running)))
    each_on j (inr running) (inr other) = stays j (counted.each j (inr (running_before started s d k x leads.put j other running)))

    pub counted_on : IsCounted started d ran' r'
    counted_on = record {
      ends = leads.ends;
      once = rw leads.starts (starts_once (started p) refl u);
      only = λ j here. elim (among_append r.starts (added (u && not (started p)) k) j (rw leads.starts at here)) [
        | inl before ↦ only_on j (counted.only j before) (same_or_not k j)
        | inr last ↦ (let a = added_among (u && not (started p)) k j last in rw a.1 (leads.goes (inr (both_true u (not (started p)) a.0))))
      ];
      each = λ j here. each_on j here (same_or_not k j);
    }

-- a job that stopped
pub counted_stop : {J : Type 0} (started : J → Bool) (s d : Spots J) (k : List ℕ) (p q : J) (x : Stuck) (ran : List (List ℕ)) (r r' : Ledger) → IsCounted started s ran r → job_in (s k) ≡ Some p → ¬ (Among ran k) → PutAt s d k (Stopped q (name_of x)) → Counted {S = Stuck} k (started p) (started q) r r' (halted (Err x)) → IsCounted started d ran r'
counted_stop started s d k p q x ran r r' counted stood new put by = counted_on started s d k (Stopped q (name_of x)) p (started q) ran ran r r' counted (record {
  stood = stood;
  put = put;
  new = new;
  starts = by.starts;
  ends = by.ends ∙ nil_end r.ends ∙ counted.ends;
  more = λ j here. here;
  fewer = λ j here. inl here;
  goes = λ on. elim on [
    | inl before ↦ inr (q, here, by.started before)
    | inr after ↦ inr (q, here, after)
  ];
  runs = λ (j, is, on). (let one : Some q ≡ Some j = sym here ∙ is in let same : q ≡ j = cc in rw same on);
})
  where
    here : job_in (d k) ≡ Some q
    here = rw (put_here s d k (Stopped q (name_of x)) put) refl

-- a job that came to its end
pub counted_end : {J : Type 0} (started : J → Bool) (s d : Spots J) (k : List ℕ) (p q : J) (m : Made) (ran : List (List ℕ)) (r r' : Ledger) → IsCounted started s ran r → job_in (s k) ≡ Some p → ¬ (Among ran k) → PutAt s d k (Done m) → Counted {S = Stuck} k (started p) (started q) r r' (halted (Ok m)) → IsCounted started d (ran ++ cond (has_run m) (k ∷ []) []) r'
counted_end {J = J} started s d k p q (Ran o) ran r r' counted stood new put by = counted_on started s d k (Done (Ran o)) p (started q) ran (ran ++ k ∷ []) r r' counted (record {
  stood = stood;
  put = put;
  new = new;
  starts = by.starts;
  ends = by.ends ∙ ap (λ ks. ks ++ k ∷ []) counted.ends;
  more = λ j here. among_left ran (k ∷ []) j here;
  fewer = λ j here. elim (among_end ran k j here) [
    | inl before ↦ inl before
    | inr same ↦ inr (same, by.started)
  ];
  goes = λ on. inl (among_right ran (k ∷ []) k (inl refl));
  runs = λ on. by.started;
})
counted_end {J = J} started s d k p q (Reused o) ran r r' counted stood new put by = counted_on started s d k (Done (Reused o)) p (started q) ran (ran ++ []) r r' counted (record {
  stood = stood;
  put = put;
  new = new;
  starts = by.starts;
  ends = by.ends ∙ ap (λ ks. ks ++ []) counted.ends;
  more = λ j here. among_left ran [] j here;
  fewer = λ j here. elim (among_append ran [] j here) [
    | inl before ↦ inl before
    | inr never ↦ absurd never
  ];
  goes = λ on. elim on [
    | inl before ↦ (let both : true ≡ false = sym before ∙ by.started.0 in cc)
    | inr after ↦ (let both : true ≡ false = sym after ∙ by.started.1 in cc)
  ];
  runs = λ (j, is, on). (let both : None ≡ Some j = rw (put_here s d k (Done (Reused o)) put) at is in cc);
})

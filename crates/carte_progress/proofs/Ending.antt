-- What a build has come to once all targets were treated.
use Rattle.std.proofs.Common.{◌≡◌, ◌⊎◌, ℕ, true, false, List, [], ◌∷◌, Option, Some, None, refl, sym, ◌∙◌, subst, inl, inr}
use Rattle.std.proofs.lemmas.Bool.{cases_Bool}
use Rattle.std.specs.Map.{lookup}
use Rattle.carte_name.specs.Names.{name_eq}
use Rattle.carte_value.specs.Truths.{Truth, Among, HasValue}
use Rattle.carte_book.specs.Book.{Item, input, rule, Book, content, clean}
use Rattle.carte_book.specs.Needs.{IsRule, needs}
use Rattle.carte_book.specs.Reason.{IsClean, AllClean, IsReason}
use Rattle.carte_book.specs.Stuck.{IsBlockedBy}
use Rattle.carte_book.specs.declared.reason.Reason.{Reason}
use Rattle.carte_book.specs.declared.reason.Reason.TheVariants.{Cycle, Missing, Dynamic}
use Rattle.carte_book.proofs.Clean.{clean_input}
use Rattle.carte_book.proofs.Stuck.{no_clean_needs}
use Rattle.carte_record.specs.Kept.{SomeKept}
use Rattle.carte_sound.specs.Held.{How, IsFollowed}
use Rattle.carte_sound.specs.Treated.{IsTreated, IsDoneSuspending}
use Rattle.carte_note.specs.declared.finished.Finished.{Finished}
use Rattle.carte_note.specs.Right.{ran_in}
use Rattle.carte_rebuild.specs.declared.work.Work.{Work}
use Rattle.carte_rebuild.specs.Ends.{IsWork}
use Rattle.carte_bench.specs.declared.slot.Slot.{Slot}
use Rattle.carte_bench.specs.declared.slot.Slot.TheVariants.{Ready, Stopped, Out, Done}
use Rattle.carte_bench.specs.Spots.{Spots, is_done, is_ready, job_in, seen_in}
use Rattle.carte_bench.specs.Steps.{FitsOf}
use Rattle.carte_bench.specs.Waits.{onward, WaitsAs}
use Rattle.carte_bench.specs.Ended.{IsOpen, HasEnded}
use Rattle.carte_bench.proofs.Cores.{sees_clean}
use Rattle.carte_bench.proofs.Whys.{ended_has_reason, reason_is}
use Rattle.carte_progress.specs.Progress.{IsAlong}
use Rattle.carte_progress.specs.Standing.{IsStanding, IsAside, IsDemanded}
use Rattle.carte_progress.specs.Reasons.{HaveNone, FirstReason}
use Rattle.carte_progress.proofs.Puts.{job_undone, job_there}
use Rattle.carte_progress.proofs.Seeing.{seen_done, done_clean}
use Rattle.carte_progress.proofs.Listing.{keys_same}
use Rattle.carte_progress.proofs.Whys.{first_reason_is, all_clean}

module _ {J : Type 0} (name : J → List ℕ) (b : Book) (s : Spots J) (standing : IsStanding name b s []) where
  aside : (k : List ℕ) → IsOpen s k → IsAside b s [] k
  aside k is_open = elim (standing.stands.open_there k is_open) [
    | inl never ↦ absurd never
    | inr there ↦ there
  ]

  stop_undone : (k n : List ℕ) (p : J) → s k ≡ Some (Stopped p n) → is_done (s n) ≡ false
  stop_undone k n p is = at (aside k ((Stopped p n, is), rw is refl))
    where
      none_undone : content b n ≡ None → (o : Option (Slot J)) → s n ≡ o → is_done o ≡ false
      none_undone nothing None there = refl
      none_undone nothing (Some x) there = let held = standing.stands.rules n x there in let both : None ≡ Some (rule held.0) = sym nothing ∙ held.1 in cc

      at : IsAside b s [] k → is_done (s n) ≡ false
      at (q, m, there, left) =
          let both : Some (Stopped p n) ≡ Some (Stopped q m) = sym is ∙ there in
          let same : m ≡ n = cc in
          elim left [
            | inl nothing ↦ none_undone (subst (λ i. content b i ≡ None) same nothing) (s n) refl
            | inr is_open ↦ subst (λ i. is_done (s i) ≡ false) same is_open.0.1
          ]

  -- nothing can go on
  pub has_ended : HasEnded b s
  has_ended = record {
    none_ready = λ k. ready k (s k) refl;
    none_out = λ k is. (let there = aside k ((Out, is), rw is refl) in let both : Some Out ≡ Some (Stopped there.0 there.1) = sym is ∙ there.2 in cc);
    demanded = λ k n p is rule_there. wanted k n p is rule_there (aside k ((Stopped p n, is), rw is refl));
  }
    where
      ready : (k : List ℕ) (o : Option (Slot J)) → s k ≡ o → is_ready s o ≡ false
      ready k None is = refl
      ready k (Some (Ready j)) is = let there = aside k ((Ready j, is), rw is refl) in let both : Some (Ready j) ≡ Some (Stopped there.0 there.1) = sym is ∙ there.2 in cc
      ready k (Some (Stopped p n)) is = stop_undone k n p is
      ready k (Some Out) is = refl
      ready k (Some (Done m)) is = refl

      wanted : (k n : List ℕ) (p : J) → s k ≡ Some (Stopped p n) → IsRule b n → IsAside b s [] k → IsDemanded s n
      wanted k n p is (e, held) (q, m, there, left) =
          let both : Some (Stopped p n) ≡ Some (Stopped q m) = sym is ∙ there in
          let same : m ≡ n = cc in
          elim left [
            | inl nothing ↦ (let never : None ≡ Some (rule e) = sym nothing ∙ rw same held in cc)
            | inr is_open ↦ subst (IsDemanded s) same is_open.0.0
          ]

  module _ (fits : FitsOf J) (begun : Truth → List ℕ → J → Type 0) (h : How) (K : SomeKept) (targets : List (List ℕ)) (fs : List Finished) (along : IsAlong fits begun h K b targets s fs) (demanded : (t : List ℕ) → Among targets t → IsRule b t → IsDemanded s t) where
    abbrev Lost : List ℕ → Type 0
    Lost k = (content b k ≡ None) ⊎ IsOpen s k

    -- what is open, or has nothing, has no clean value
    lost_none : (k : List ℕ) → Lost k → clean b k ≡ None
    lost_none = no_clean_needs b Lost blocked
      where
        blocked : (k : List ℕ) → Lost k → IsBlockedBy b Lost k
        blocked k (inl nothing) = inl nothing
        blocked k (inr is_open) =
            let there = aside k is_open in
            inr (
              there.1,
              (along.known.core.slots k (Stopped there.0 there.1) there.2).1,
              elim there.3 [
                | inl nothing ↦ inl nothing
                | inr open_there ↦ inr open_there.0
              ],
            )

    open_or_done : (k : List ℕ) → IsDemanded s k → (is_done (s k) ≡ true) ⊎ IsOpen s k
    open_or_done k there = elim (cases_Bool (is_done (s k))) [
      | inl is ↦ inl is
      | inr undone ↦ inr (there, undone)
    ]

    pub clean_done : (k : List ℕ) → IsDemanded s k → IsClean b k → is_done (s k) ≡ true
    clean_done k there (v, is) = elim (open_or_done k there) [
      | inl done ↦ done
      | inr is_open ↦ (let both : Some v ≡ None = sym is ∙ lost_none k (inr is_open) in cc)
    ]

    seen_demanded : (k : List ℕ) → IsRule b k → HasValue (seen_in b s) k → IsDemanded s k
    seen_demanded k is has = at (s k) refl (seen_done b s k is has)
      where
        at : (o : Option (Slot J)) → s k ≡ o → is_done o ≡ true → IsDemanded s k
        at None there ends = cc
        at (Some x) there ends = (x, there)

    -- each treated rule was demanded
    need_demanded : (j k : List ℕ) → IsDemanded s j → IsFollowed h K b j → Among (needs b j) k → IsRule b k → IsDemanded s k
    need_demanded j k there followed need is = elim (open_or_done j there) [
      | inl done ↦ seen_demanded k is (along.known.done j done followed k need)
      | inr is_open ↦ at (aside j is_open)
    ]
      where
        at : IsAside b s [] j → IsDemanded s k
        at (p, n, stop, left) =
            let none : clean b n ≡ None = elim left [
              | inl nothing ↦ lost_none n (inl nothing)
              | inr is_open ↦ lost_none n (inr is_open.0)
            ] in
            elim ((along.known.stops j n p stop).1 none k need) [
              | inl same ↦ elim left [
                | inl nothing ↦ (let both : None ≡ Some (rule is.0) = sym nothing ∙ rw (← same) is.1 in cc)
                | inr is_open ↦ subst (IsDemanded s) (sym same) is_open.0.0
              ]
              | inr has ↦ seen_demanded k is has
            ]

    pub treated_demanded : (k : List ℕ) → IsTreated h K b targets k → IsDemanded s k
    treated_demanded k (IsTreated.target here is) = demanded k here is
    treated_demanded k (IsTreated.need {j = j} treated followed need is) = need_demanded j k (treated_demanded j treated) followed need is

    -- so exactly what is treated and clean was finished
    pub is_work : (w : Work) → w.finished ≡ fs → w.runs.ends ≡ ran_in fs → IsWork h K b (IsDoneSuspending h K b targets) w
    is_work w finished ends = record {
      right = rw finished along.finished.right;
      order = rw finished (record {
        finished = along.finished.order;
        once = rw (keys_same fs) along.finished.once;
        only = λ k here. (let done = along.finished.only k (subst (λ ks. Among ks k) (keys_same fs) here) in let there = seen_of k done in (along.known.treated k there.0 there.1, done_clean b fits s k along.known.core done));
        each = λ k (treated, is). subst (λ ks. Among ks k) (sym (keys_same fs)) (along.finished.listed k (clean_done k (treated_demanded k treated) is));
      });
      ends = rw finished ends;
    }
      where
        seen_of : (k : List ℕ) → is_done (s k) ≡ true → IsDemanded s k
        seen_of k done = at (s k) refl done
          where
            at : (o : Option (Slot J)) → s k ≡ o → is_done o ≡ true → IsDemanded s k
            at None there ends = cc
            at (Some x) there ends = (x, there)

    -- where each target is clean, each treated rule is
    treated_clean : ((t : List ℕ) → Among targets t → IsClean b t) → (k : List ℕ) → IsTreated h K b targets k → IsClean b k
    treated_clean all k (IsTreated.target here is) = all k here
    treated_clean all k (IsTreated.need {j = j} treated followed need is) =
        let done = clean_done j (treated_demanded j treated) (treated_clean all j treated) in
        let has = along.known.done j done followed k need in
        (has.0, sees_clean fits b s along.known.core k has.0 has.1)

    -- and no job is left
    pub none_left : ((t : List ℕ) → Among targets t → IsClean b t) → (k : List ℕ) (j : J) → job_in (s k) ≡ Some j → ⊥
    none_left all k j is =
        let there = job_there (s k) j is in
        let clean_there = treated_clean all k (along.known.treated k there.0 there.1) in
        let both : Some clean_there.0 ≡ None = sym clean_there.1 ∙ lost_none k (inr (there, job_undone (s k) j is)) in
        cc

    -- some of those with which it began were what was asked for
    module _ (asked : List (List ℕ)) (within : (t : List ℕ) → Among asked t → Among targets t) (es : List (List ℕ × Slot J)) (are : (q : List ℕ) → s q ≡ lookup (name_eq q) es) where
      no_reason : (t : List ℕ) (o : Reason) → WaitsAs (onward b s) t (Some o) → WaitsAs (onward b s) t None → ⊥
      no_reason t (Cycle p) (from, round) none = (none p from).0 round
      no_reason t (Missing p) (from, astray) none = (none p from).1 astray
      no_reason t (Dynamic p) never none = never

      -- a target without a path of waits is clean
      pub target_clean : (t : List ℕ) → Among asked t → WaitsAs (onward b s) t None → IsClean b t
      target_clean t here none = at (content b t) refl
        where
          at : (o : Option Item) → content b t ≡ o → IsClean b t
          at None is = absurd ((none (t ∷ []) refl).1 (rw is refl))
          at (Some (input v)) is = (v, clean_input b t v is)
          at (Some (rule e)) is = elim (open_or_done t (demanded t (within t here) (e, is))) [
            | inl done ↦ done_clean b fits s t along.known.core done
            | inr is_open ↦ (let reason = ended_has_reason fits b s along.known.core has_ended es are t is_open in absurd (no_reason t reason.0 reason.1 none))
          ]

      pub targets_clean : HaveNone (onward b s) asked → AllClean b asked
      targets_clean none = all_clean b (onward b s) (λ t o waits. reason_is fits b s along.known.core t o waits) asked target_clean none

      pub targets_reason : (o : Reason) → FirstReason (onward b s) asked (Some o) → IsReason b asked o
      targets_reason o first = first_reason_is b (onward b s) (λ t q waits. reason_is fits b s along.known.core t q waits) asked o target_clean first

-- the members of targets that are all clean
pub each_clean : (b : Book) (targets : List (List ℕ)) → AllClean b targets → (t : List ℕ) → Among targets t → IsClean b t
each_clean b [] clean t here = absurd here
each_clean b (i ∷ targets) clean t (inl same) = subst (IsClean b) (sym same) clean.0
each_clean b (i ∷ targets) clean t (inr later) = each_clean b targets clean.1 t later

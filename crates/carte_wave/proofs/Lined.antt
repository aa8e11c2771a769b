-- What stands of keys that can go on and keys that wait, where something is put at a key that isn't done.
use Rattle.std.proofs.Common.{◌≡◌, ◌⊎◌, ℕ, true, false, List, Option, Some, None, refl, sym, ◌∙◌, subst, inl, inr}
use Rattle.std.proofs.lemmas.Bool.{cases_Bool}
use Rattle.carte_value.specs.Truths.{Among}
use Rattle.carte_value.proofs.Members.{same_or_not}
use Rattle.carte_book.specs.Book.{Book}
use Rattle.carte_book.specs.Needs.{IsRule}
use Rattle.carte_bench.specs.declared.slot.Slot.{Slot}
use Rattle.carte_bench.specs.declared.slot.Slot.TheVariants.{Ready, Stopped, Out, Done}
use Rattle.carte_bench.specs.Spots.{Spots, PutAt, job_in, is_done, is_ready}
use Rattle.carte_bench.proofs.Puts.{put_here, put_apart}
use Rattle.carte_bench.proofs.Turning.{jobs_put}
use Rattle.carte_progress.proofs.Puts.{not_both, stood_before}
use Rattle.carte_progress.proofs.Standings.{rules_put}
use Rattle.carte_wave.specs.Front.{Line}
use Rattle.carte_wave.specs.Standing.{IsHeldBy, IsLined}

module _ {J : Type 0} (name : J → List ℕ) (b : Book) (v d : Spots J) (k : List ℕ) (x : Slot J) (put : PutAt v d k x) (undone : is_done (v k) ≡ false) where
  pub done_stays : (q : List ℕ) → is_done (v q) ≡ true → is_done (d q) ≡ true
  done_stays q is = elim (same_or_not k q) [
    | inl same ↦ absurd (not_both (v k) (subst (λ i. is_done (v i) ≡ true) (sym same) is) undone)
    | inr other ↦ rw (put_apart v d k x q other put) is
  ]

  undone_before : (q : List ℕ) → is_done (d q) ≡ false → is_done (v q) ≡ false
  undone_before q is = elim (cases_Bool (is_done (v q))) [
    | inl done ↦ absurd (not_both (d q) (done_stays q done) is)
    | inr before ↦ before
  ]

  pub ready_stays : (q : List ℕ) → ¬ (k ≡ q) → is_ready v (v q) ≡ true → is_ready d (d q) ≡ true
  ready_stays q other is = rw (put_apart v d k x q other put) (at (v q) is)
    where
      at : (o : Option (Slot J)) → is_ready v o ≡ true → is_ready d o ≡ true
      at None ready = cc
      at (Some (Ready p)) ready = refl
      at (Some (Stopped p n)) ready = done_stays n ready
      at (Some Out) ready = cc
      at (Some (Done m)) ready = cc

  -- what is to be known of the lines before and after it, and of the keys that the wave took
  pub record Moves (taken taken' : List (List ℕ)) (f g : Line) : Type 0 where
    pub taken_less : (q : List ℕ) → Among taken' q → Among taken q × ¬ (k ≡ q)
    pub taken_else : (q : List ℕ) → Among taken q → (k ≡ q) ⊎ Among taken' q
    pub not_ready : f.ready k ≡ true → ⊥
    pub unwaited : (n : List ℕ) → Among (f.waits n) k → is_done (v n) ≡ false → ⊥
    pub is_rule : IsRule b k
    pub named_here : (j : J) → job_in (Some x) ≡ Some j → name j ≡ k
    pub not_out : Some x ≡ Some Out → ⊥
    pub ready_more : (q : List ℕ) → f.ready q ≡ true → g.ready q ≡ true
    pub ready_new : (q : List ℕ) → g.ready q ≡ true → (f.ready q ≡ true) ⊎ ((is_ready d (d q) ≡ true) × ¬ (Among taken' q))
    pub waits_new : (n q : List ℕ) → Among (g.waits n) q → is_done (d n) ≡ false → Among (f.waits n) q ⊎ ((p : J) × (d q ≡ Some (Stopped p n)))
    pub waits_kept : (n q : List ℕ) → Among (f.waits n) q → is_done (v n) ≡ false → (g.ready q ≡ true) ⊎ (Among (g.waits n) q × (is_done (d n) ≡ false))
    pub here_fresh : (p : J) → Some x ≡ Some (Ready p) → g.ready k ≡ true
    pub here_stopped : (n : List ℕ) (p : J) → Some x ≡ Some (Stopped p n) → (g.ready k ≡ true) ⊎ IsHeldBy b d g n k

  module _ (taken taken' : List (List ℕ)) (f g : Line) (m : Moves taken taken' f g) (l : IsLined name b v taken f) where
    stands_here : (q : List ℕ) (y : Option (Slot J)) → k ≡ q → d q ≡ y → Some x ≡ y
    stands_here q y same is = sym (put_here v d k x put) ∙ subst (λ i. d i ≡ y) (sym same) is

    apart_ready : (q : List ℕ) → f.ready q ≡ true → ¬ (k ≡ q)
    apart_ready q is same = m.not_ready (subst (λ i. f.ready i ≡ true) (sym same) is)

    pub lined_put : IsLined name b d taken' g
    lined_put = record {
      rules = rules_put b v d k x put m.is_rule l.rules;
      named = jobs_put (λ q j. name j ≡ q) v d k x put l.named m.named_here;
      none_out = λ q is. elim (same_or_not k q) [
        | inl same ↦ m.not_out (stands_here q (Some Out) same is)
        | inr other ↦ l.none_out q (stood_before v d k x q (Some Out) put other is)
      ];
      ready_is = λ q is. elim (m.ready_new q is) [
        | inl old ↦ ready_stays q (apart_ready q old) (l.ready_is q old)
        | inr new ↦ new.0
      ];
      taken_is = λ q here. (let less = m.taken_less q here in ready_stays q less.1 (l.taken_is q less.0));
      apart = λ q is here. elim (m.ready_new q is) [
        | inl old ↦ l.apart q old (m.taken_less q here).0
        | inr new ↦ new.1 here
      ];
      waits_is = λ n q here open_n. elim (m.waits_new n q here open_n) [
        | inl old ↦ waiting n q old (undone_before n open_n)
        | inr new ↦ new
      ];
      fresh = λ q p is. elim (same_or_not k q) [
        | inl same ↦ inl (subst (λ i. g.ready i ≡ true) same (m.here_fresh p (stands_here q (Some (Ready p)) same is)))
        | inr other ↦ elim (l.fresh q p (stood_before v d k x q (Some (Ready p)) put other is)) [
          | inl old ↦ inl (m.ready_more q old)
          | inr here ↦ inr (taken_on q other here)
        ]
      ];
      stopped = λ q n p is. elim (same_or_not k q) [
        | inl same ↦ subst (λ i. ((g.ready i ≡ true) ⊎ Among taken' i) ⊎ IsHeldBy b d g n i) same (at_key n (m.here_stopped n p (stands_here q (Some (Stopped p n)) same is)))
        | inr other ↦ elsewhere q n other (l.stopped q n p (stood_before v d k x q (Some (Stopped p n)) put other is))
      ];
    }
      where
        waiting : (n q : List ℕ) → Among (f.waits n) q → is_done (v n) ≡ false → (p : J) × (d q ≡ Some (Stopped p n))
        waiting n q old open_n =
            let w = l.waits_is n q old open_n in
            (w.0, put_apart v d k x q (λ same. m.unwaited n (subst (Among (f.waits n)) (sym same) old) open_n) put ∙ w.1)

        taken_on : (q : List ℕ) → ¬ (k ≡ q) → Among taken q → Among taken' q
        taken_on q other here = elim (m.taken_else q here) [
          | inl same ↦ absurd (other same)
          | inr there ↦ there
        ]

        at_key : (n : List ℕ) → (g.ready k ≡ true) ⊎ IsHeldBy b d g n k → ((g.ready k ≡ true) ⊎ Among taken' k) ⊎ IsHeldBy b d g n k
        at_key n (inl is) = inl (inl is)
        at_key n (inr there) = inr there

        elsewhere : (q n : List ℕ) → ¬ (k ≡ q) → ((f.ready q ≡ true) ⊎ Among taken q) ⊎ IsHeldBy b v f n q → ((g.ready q ≡ true) ⊎ Among taken' q) ⊎ IsHeldBy b d g n q
        elsewhere q n other (inl (inl old)) = inl (inl (m.ready_more q old))
        elsewhere q n other (inl (inr here)) = inl (inr (taken_on q other here))
        elsewhere q n other (inr (inl none)) = inr (inl none)
        elsewhere q n other (inr (inr (old, open_n))) = elim (m.waits_kept n q old open_n) [
          | inl is ↦ inl (inl is)
          | inr there ↦ inr (inr there)
        ]

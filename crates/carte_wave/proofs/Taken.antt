-- Keys that can go on are taken, one after another, and then nothing of the wave is back yet.
use Rattle.std.proofs.Common.{◌≡◌, ℕ, ◌<◌, true, false, List, [], ◌∷◌, ◌++◌, length, Option, Some, None, refl, ap, sym, ◌∙◌, subst, inl, inr, append_assoc, append-nil, arith}
use Rattle.carte_value.specs.Truths.{Among, NoneTwice}
use Rattle.carte_value.proofs.Members.{same_or_not}
use Rattle.carte_bench.specs.declared.slot.Slot.{Slot}
use Rattle.carte_bench.specs.declared.slot.Slot.TheVariants.{Ready, Stopped, Out, Done}
use Rattle.carte_bench.specs.Spots.{Spots, IsSame, Takes, is_ready, job_in}
use Rattle.carte_bench.proofs.Puts.{put_here, put_apart}
use Rattle.carte_progress.proofs.Puts.{not_both}
use Rattle.carte_wave.specs.Settling.{AreOut, AreJobs, TakesOne}
use Rattle.carte_wave.proofs.Outs.{ready_undone}

module _ {J : Type 0} (v : Spots J) (all : List (List ℕ)) where
  -- these are still to be taken
  pub record IsTaking (s : Spots J) (rest : List (List ℕ)) : Type 0 where
    pub within : (q : List ℕ) → Among rest q → Among all q
    pub left : (q : List ℕ) → Among rest q → s q ≡ v q
    pub out : (q : List ℕ) → Among all q → ¬ (Among rest q) → s q ≡ Some Out
    pub others : (q : List ℕ) → ¬ (Among all q) → s q ≡ v q
    pub once : NoneTwice rest

  pub taking_all : (s : Spots J) → IsSame v s → NoneTwice all → IsTaking s all
  taking_all s same once = record {
    within = λ q here. here;
    left = λ q here. same q;
    out = λ q here off. absurd (off here);
    others = λ q off. same q;
    once = once;
  }

  module _ (ready : (k : List ℕ) → Among all k → is_ready v (v k) ≡ true) where
    pub taking_ready : (s : Spots J) (rest : List (List ℕ)) (k : List ℕ) → IsTaking s rest → Among rest k → is_ready s (s k) ≡ true
    taking_ready s rest k taking here = rw (taking.left k here) (at (v k) (ready k (taking.within k here)))
      where
        at : (o : Option (Slot J)) → is_ready v o ≡ true → is_ready s o ≡ true
        at None is = cc
        at (Some (Ready p)) is = refl
        at (Some (Stopped p n)) is = rw (taking.others n (λ taken. not_both (v n) is (ready_undone v (v n) (ready n taken)))) is
        at (Some Out) is = cc
        at (Some (Done m)) is = cc

    pub taking_one : (s d : Spots J) (k : List ℕ) (rest : List (List ℕ)) (p : J) → IsTaking s (k ∷ rest) → Takes s d k (Some p) → IsTaking d rest
    taking_one s d k rest p taking (is, stood, put) = record {
      within = λ q here. taking.within q (inr here);
      left = λ q here. put_apart s d k Out q (λ same. taking.once.0 (subst (Among rest) (sym same) here)) put ∙ taking.left q (inr here);
      out = λ q here off. elim (same_or_not k q) [
        | inl same ↦ subst (λ i. d i ≡ Some Out) same (put_here s d k Out put)
        | inr other ↦ put_apart s d k Out q other put ∙ taking.out q here (λ h. elim h [
          | inl same ↦ other (sym same)
          | inr later ↦ off later
        ])
      ];
      others = λ q off. put_apart s d k Out q (λ same. off (subst (Among all) same (taking.within k (inl refl)))) put ∙ taking.others q off;
      once = taking.once.1;
    }

    pub taking_job : (s d : Spots J) (k : List ℕ) (rest : List (List ℕ)) (p : J) → IsTaking s (k ∷ rest) → Takes s d k (Some p) → job_in (v k) ≡ Some p
    taking_job s d k rest p taking (is, stood, put) = rw (taking.left k (inl refl)) at stood

    pub taking_some : (s d : Spots J) (k : List ℕ) (rest : List (List ℕ)) → IsTaking s (k ∷ rest) → Takes s d k None → ⊥
    taking_some s d k rest taking (unready, same) = let both : true ≡ false = sym (taking_ready s (k ∷ rest) k taking (inl refl)) ∙ unready in cc

  pub taken_out : (s : Spots J) (rest : List (List ℕ)) → rest ≡ [] → IsTaking s rest → AreOut v s all
  taken_out s rest none taking = record {
    out = λ q here. taking.out q here (λ there. subst (λ l. Among l q) none there);
    else_same = taking.others;
  }

  -- whatever the jobs of the rest are, all are these and those
  abbrev pub Gathers : List (List ℕ) → List J → Type 0
  Gathers rest jobs = (ps : List J) → AreJobs v rest ps → AreJobs v all (jobs ++ ps)

  pub gathers_one : (k : List ℕ) (rest before : List (List ℕ)) (jobs jobs' : List J) (p : J) → before ≡ k ∷ rest → jobs' ≡ jobs ++ p ∷ [] → job_in (v k) ≡ Some p → Gathers before jobs → Gathers rest jobs'
  gathers_one k rest before jobs jobs' p parts is stood gathers ps later =
      let on : AreJobs v all (jobs ++ (p ∷ ps)) = gathers (p ∷ ps) (rw parts (stood, later)) in
      let same : jobs' ++ ps ≡ jobs ++ (p ∷ ps) = ap (λ l. l ++ ps) is ∙ append_assoc jobs (p ∷ []) ps in
      rw same on

  pub gathers_all : (rest : List (List ℕ)) (jobs : List J) → rest ≡ [] → Gathers rest jobs → AreJobs v all jobs
  gathers_all rest jobs none gathers = subst (AreJobs v all) (append-nil jobs) (gathers [] (rw none tt))

-- one key more was taken
pub taken_next : {J : Type 0} (v : Spots J) (all : List (List ℕ)) (ready : (k : List ℕ) → Among all k → is_ready v (v k) ≡ true) (s d : Spots J) (k : List ℕ) (rest before : List (List ℕ)) (jobs jobs' : List J) → before ≡ k ∷ rest → IsTaking v all s before → Gathers v all before jobs → TakesOne s d k jobs jobs' → IsTaking v all d rest × Gathers v all rest jobs'
taken_next v all ready s d k rest before jobs jobs' parts taking gathers (inl (p, takes, is)) =
    let here = subst (IsTaking v all s) parts taking in
    (taking_one v all ready s d k rest p here takes, gathers_one v all k rest before jobs jobs' p parts is (taking_job v all ready s d k rest p here takes) gathers)
taken_next v all ready s d k rest before jobs jobs' parts taking gathers (inr takes) = absurd (taking_some v all ready s d k rest (subst (IsTaking v all s) parts taking) takes)

pub no_keys : (ks : List (List ℕ)) → (0 < length ks → ⊥) → ks ≡ []
no_keys [] none = refl
no_keys (k ∷ ks) none = absurd (none (omega arith))

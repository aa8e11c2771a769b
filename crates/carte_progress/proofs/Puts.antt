-- What is put at a name twice, and what a slot is.
use Rattle.std.proofs.Common.{◌≡◌, ℕ, true, false, cond, List, Option, Some, None, refl, sym, ◌∙◌}
use Rattle.carte_name.specs.Names.{name_eq}
use Rattle.carte_bench.specs.declared.slot.Slot.{Slot}
use Rattle.carte_bench.specs.declared.slot.Slot.TheVariants.{Ready, Stopped, Out, Done}
use Rattle.carte_bench.specs.Spots.{Spots, PutAt, job_in, is_done, is_ready, done_in}
use Rattle.carte_bench.proofs.Puts.{put_apart}

module _ {J : Type 0} where
  pub put_twice : (s t d : Spots J) (k : List ℕ) (x y : Slot J) → PutAt s t k x → PutAt t d k y → PutAt s d k y
  put_twice s t d k x y one two q = rw (two q, one q) (elim (name_eq k q) as (λ c. cond c (Some y) (cond c (Some x) (s q)) ≡ cond c (Some y) (s q)) [ true ↦ refl | false ↦ refl ])

  -- a slot with a job is no end
  pub job_undone : (o : Option (Slot J)) (j : J) → job_in o ≡ Some j → is_done o ≡ false
  job_undone None j is = refl
  job_undone (Some (Ready i)) j is = refl
  job_undone (Some (Stopped i n)) j is = refl
  job_undone (Some Out) j is = refl
  job_undone (Some (Done m)) j is = cc

  pub job_there : (o : Option (Slot J)) (j : J) → job_in o ≡ Some j → (x : Slot J) × (o ≡ Some x)
  job_there None j is = cc
  job_there (Some x) j is = (x, refl)

  pub ready_there : (s : Spots J) (o : Option (Slot J)) → is_ready s o ≡ true → (x : Slot J) × (o ≡ Some x)
  ready_there s None is = cc
  ready_there s (Some x) is = (x, refl)

  pub undone_none : (o : Option (Slot J)) → is_done o ≡ false → done_in o ≡ None
  undone_none None is = refl
  undone_none (Some (Ready i)) is = refl
  undone_none (Some (Stopped i n)) is = refl
  undone_none (Some Out) is = refl
  undone_none (Some (Done m)) is = cc

  pub not_both : (o : Option (Slot J)) → is_done o ≡ true → is_done o ≡ false → ⊥
  not_both o is never = let both : true ≡ false = sym is ∙ never in cc

  -- what stands at another name than where it was put stood there before
  pub stood_before : (s d : Spots J) (k : List ℕ) (x : Slot J) (q : List ℕ) (y : Option (Slot J)) → PutAt s d k x → ¬ (k ≡ q) → d q ≡ y → s q ≡ y
  stood_before s d k x q y put apart is = sym (put_apart s d k x q apart put) ∙ is

-- Each job stays one of its key, and what is done has it.
use Rattle.std.proofs.Common.{◌≡◌, ◌⊎◌, ℕ, Bool, List, Option, Some, None, Result, Ok, Err, refl, sym, ◌∙◌, subst, inl, inr}
use Rattle.carte_value.specs.Once.{Answers}
use Rattle.carte_value.specs.Truths.{Truth}
use Rattle.carte_value.proofs.Members.{same_or_not}
use Rattle.carte_effect.specs.declared.look.Stuck.{Stuck}
use Rattle.carte_effect.specs.declared.outcome.Made.{Made}
use Rattle.carte_effect.specs.Jobs.{Step, StepKeyed}
use Rattle.carte_effect.specs.Ledger.{Ledger}
use Rattle.carte_book.specs.Book.{Book}
use Rattle.carte_bench.specs.declared.slot.Slot.{Slot}
use Rattle.carte_bench.specs.declared.slot.Slot.TheVariants.{Ready, Stopped, Out, Done}
use Rattle.carte_bench.specs.Spots.{Spots, PutAt, IsSame, job_in, slot_after, seen_in}
use Rattle.carte_bench.specs.Steps.{GivesOf, step_of}
use Rattle.carte_bench.specs.Keys.{KeyedSlot, AreKeyed}
use Rattle.carte_bench.specs.Turns.{TurnedTo, Turned}
use Rattle.carte_bench.proofs.Puts.{put_here, put_apart}
use Rattle.carte_bench.proofs.Turning.{turn_gave}

module _ {J : Type 0} (keyed : J → List ℕ → Type 0) where
  -- a bench on which nothing was demanded
  pub none_keyed : (s : Spots J) → IsSame (λ q. None) s → AreKeyed keyed s
  none_keyed s none k x is = let both : None ≡ Some x = sym (none k) ∙ is in cc

  pub same_keyed : (s d : Spots J) → IsSame s d → AreKeyed keyed s → AreKeyed keyed d
  same_keyed s d same all k x is = all k x (sym (same k) ∙ is)

  pub put_keyed : (s d : Spots J) (k : List ℕ) (x : Slot J) → AreKeyed keyed s → KeyedSlot keyed k x → PutAt s d k x → AreKeyed keyed d
  put_keyed s d k x all one put q y there = at (same_or_not k q)
    where
      at : (k ≡ q) ⊎ (¬ (k ≡ q)) → KeyedSlot keyed q y
      at (inl same) =
          let here = put_here s d k x put in
          let both : Some x ≡ Some y = sym here ∙ subst (λ i. d i ≡ Some y) (sym same) there in
          let is : x ≡ y = cc in
          subst (λ i. KeyedSlot keyed i y) same (subst (KeyedSlot keyed k) is one)
      at (inr other) = all q y (sym (put_apart s d k x q other put) ∙ there)

  -- the job at a key is one of it
  pub job_keyed : (s : Spots J) (k : List ℕ) (p : J) → AreKeyed keyed s → job_in (s k) ≡ Some p → keyed p k
  job_keyed s k p all stood = at (s k) refl stood
    where
      of_key : (j : J) → Some j ≡ Some p → keyed j k → keyed p k
      of_key j one has = let is : j ≡ p = cc in subst (λ i. keyed i k) is has

      at : (o : Option (Slot J)) → s k ≡ o → job_in o ≡ Some p → keyed p k
      at None is has = cc
      at (Some (Ready j)) is has = of_key j has (all k (Ready j) is)
      at (Some (Stopped j n)) is has = of_key j has (all k (Stopped j n) is)
      at (Some Out) is has = cc
      at (Some (Done m)) is has = cc

  -- so is what a step of it leaves
  pub after_keyed : (k : List ℕ) (q : J) (o : Result Made Stuck) → StepKeyed keyed k (step_of o) q → KeyedSlot keyed k (slot_after q o)
  after_keyed k q (Ok m) has = has
  after_keyed k q (Err x) has = has

  module _ (name : J → List ℕ) (started : J → Bool) (gives : GivesOf J) (law : (p : J) (t : Truth) (k : List ℕ) (further : Answers) (step : Step) (q : J) → keyed p k → gives p t further step q → StepKeyed keyed k step q) (b : Book) (old new : Spots J) (r r' : Ledger) (k : List ℕ) where
    pub turned_keyed : (o : Result Made Stuck) → TurnedTo name started gives b old new r r' k o → AreKeyed keyed old → AreKeyed keyed new
    turned_keyed o turned all =
        let mid = put_keyed old turned.mid k Out all tt turned.out in
        let step = law turned.before (seen_in b turned.mid) k turned.gave.further (step_of o) turned.after (job_keyed old k turned.before all turned.stood) (turn_gave name started gives b old new r r' k o turned) in
        put_keyed turned.mid new k (slot_after turned.after o) mid (after_keyed k turned.after o step) turned.put

    pub turn_keyed : (m : Option Made) → Turned name started gives b old new r r' k m → AreKeyed keyed old → AreKeyed keyed new
    turn_keyed (Some m) turned all = turned_keyed (Ok m) turned all
    turn_keyed None (x, turned) all = turned_keyed (Err x) turned all

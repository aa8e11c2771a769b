-- What a turn makes is finished under its key, whatever is kept.
use Rattle.std.proofs.Common.{◌≡◌, ℕ, Bool, List, [], ◌∷◌, ◌++◌, Some, Ok, ap, ◌∙◌, subst}
use Rattle.carte_value.specs.Once.{Answers}
use Rattle.carte_value.specs.Truths.{Truth}
use Rattle.carte_effect.specs.declared.outcome.Made.{Made}
use Rattle.carte_effect.specs.Jobs.{Step, came, outcome_of, StepKeyed}
use Rattle.carte_effect.specs.Ledger.{Ledger}
use Rattle.carte_book.specs.Book.{Book}
use Rattle.carte_note.specs.declared.finished.Finished.{Finished}
use Rattle.carte_note.specs.Right.{keys_in}
use Rattle.carte_bench.specs.declared.slot.Slot.TheVariants.{Ready}
use Rattle.carte_bench.specs.Spots.{Spots, PutAt, seen_in}
use Rattle.carte_bench.specs.Steps.{GivesOf}
use Rattle.carte_bench.specs.Turns.{TurnedTo}
use Rattle.carte_bench.proofs.Puts.{put_here}
use Rattle.carte_topo.proofs.Finishing.{keys_end}

module _ {J : Type 0} (keyed : J → List ℕ → Type 0) (name : J → List ℕ) (started : J → Bool) (gives : GivesOf J) (law : (p : J) (t : Truth) (k : List ℕ) (further : Answers) (step : Step) (q : J) → keyed p k → gives p t further step q → StepKeyed keyed k step q) (b : Book) (s mid new : Spots J) (r r' : Ledger) (k : List ℕ) (job : J) (m : Made) (put : PutAt s mid k (Ready job)) (of_key : keyed job k) (turned : TurnedTo name started gives b mid new r r' k (Ok m)) where
  made_key : (outcome_of m).key ≡ k
  made_key =
      let one : Some job ≡ Some turned.before = rw (put_here s mid k (Ready job) put) at turned.stood in
      let same : job ≡ turned.before = cc in
      law turned.before (seen_in b turned.mid) k turned.gave.further (came m) turned.after (subst (λ j. keyed j k) same of_key) turned.gave.gave

  pub key_more : (fs gs : List Finished) (f : Finished) → f.made ≡ m → gs ≡ fs ++ f ∷ [] → keys_in gs ≡ keys_in fs ++ k ∷ []
  key_more fs gs f made is = ap keys_in is ∙ keys_end fs f ∙ ap (λ n. keys_in fs ++ n ∷ []) (ap (λ x. (outcome_of x).key) made ∙ made_key)

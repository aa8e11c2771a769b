-- The name of a job as it is begun.
use Rattle.std.proofs.Common.{◌≡◌, ℕ, List, Option, Some, None, refl, ap, ◌∙◌}
use Rattle.std.proofs.lemmas.Result.{IfOk-weaker}
use Rattle.std.specs.Prelude.{Result, IfOk}
use Rattle.carte_book.specs.Book.{Book}
use Rattle.carte_effect.specs.Outcomes.{Outcome}
use Rattle.carte_record.specs.Kept.{SomeKept}
use Rattle.carte_deep.specs.declared.job.DeepJob.{DeepJob}
use Rattle.carte_deep.specs.Holding.{Finds}
use Rattle.carte_deep.specs.Work.{name_in, key_or, Starts}
use Rattle.carte_deep.specs.Laws.{given_is}

-- what is found has the key
found_key : (K : SomeKept) (b : Book) (k : List ℕ) (found : Option Outcome) → Finds K b k found → key_or found k ≡ k
found_key K b k None none = refl
found_key K b k (Some o) (t, kept, gives) = ap (λ (x : Outcome). x.key) (given_is K.stored b k t o gives).is

pub start_name : (K : SomeKept) (b : Book) (k : List ℕ) (found : Option Outcome) (p : DeepJob) → Finds K b k found → Starts b k found p → name_in p ≡ k
start_name K b k found p finds start = start.name ∙ found_key K b k found finds

pub begun_name : {E : Type 0} (K : SomeKept) (b : Book) (k : List ℕ) (found : Option Outcome) (r : Result DeepJob E) → Finds K b k found → IfOk r (Starts b k found) → IfOk r (λ p. name_in p ≡ k)
begun_name K b k found r finds starts = IfOk-weaker r (Starts b k found) (λ p. name_in p ≡ k) (λ p start. start_name K b k found p finds start) starts

-- What the ledger of a refused build tells.
use Rattle.std.proofs.Common.{◌≡◌, ℕ, List, refl, sym, subst}
use Rattle.carte_value.specs.Truths.{Among, NoneTwice}
use Rattle.carte_effect.specs.Ledger.{no_runs}
use Rattle.carte_book.specs.Book.{Book}
use Rattle.carte_book.specs.declared.reason.Reason.{Reason}
use Rattle.carte_record.specs.Kept.{SomeKept}
use Rattle.carte_sound.specs.Begun.{Beginning, IsBeginning, begin}
use Rattle.carte_sound.specs.Held.{How}
use Rattle.carte_rebuild.specs.declared.work.Work.{Work}
use Rattle.carte_rebuild.specs.Ends.{IsWork}
use Rattle.carte_engine.specs.Answers.{IsDoneRefused, IsRefusal, StartsRefused}
use Rattle.carte_engine.specs.Schedulers.{IsRefusedFor}
use Rattle.carte_engine.specs.declared.scheduler.Scheduler.{Scheduler}
use Rattle.carte_engine.specs.declared.scheduler.Scheduler.TheVariants.{Topological}
use Rattle.carte_engine.proofs.Succeeding.{ran_each, ran_once, ran_only}

-- exactly those that are done and not held have run
pub refuses : (s : Scheduler) (h : How) (K : SomeKept) (b : Book) (targets : List (List ℕ)) (x : Beginning) (w : Work) (reason : Reason) → IsBeginning K b x → IsRefusedFor s b targets reason
    → IsWork h (begin K x) b (IsDoneRefused s h (begin K x) b targets) w → StartsRefused s h (begin K x) b targets w.runs → IsRefusal s h K b targets reason w.runs
refuses s h K b targets x w reason begins refused work starts =
    let M = begin K x in
    record {
      refused = refused;
      begun = x;
      begins = begins;
      once = subst NoneTwice (sym work.ends) (ran_once h M b w.finished work.right work.order.once);
      ended = λ k. (
        (λ here. let ran = ran_only h M b w.finished k work.right (subst (λ (ks : List (List ℕ)). Among ks k) work.ends here) in (work.order.only k ran.0, ran.1)),
        λ run. subst (λ (ks : List (List ℕ)). Among ks k) (sym work.ends) (ran_each h M b w.finished k work.right (work.order.each k run.0) run.1),
      );
      started = starts;
    }

-- a build that is refused before any run has run nothing
pub refuses_nothing : (h : How) (K : SomeKept) (b : Book) (targets : List (List ℕ)) (x : Beginning) (w : Work) (reason : Reason) → IsBeginning K b x → IsRefusedFor Topological b targets reason
    → w.runs ≡ no_runs → IsRefusal Topological h K b targets reason w.runs
refuses_nothing h K b targets x w reason begins refused none = subst (IsRefusal Topological h K b targets reason) (sym none) (record {
  refused = refused;
  begun = x;
  begins = begins;
  once = tt;
  ended = λ k. ((λ nowhere. absurd nowhere), λ run. absurd run.0);
  started = refl;
})

-- The plan of a build over what is kept, from that over what the build finds.
use Rattle.std.proofs.Common.{◌≡◌, ℕ, List, [], ◌∷◌, ◌++◌, Result, Ok, Err, sym, subst}
use Rattle.std.specs.Prelude.{IfOk}
use Rattle.carte_book.specs.Book.{Book}
use Rattle.carte_record.specs.declared.batch.Batch.{Batch}
use Rattle.carte_sound.specs.Held.{How}
use Rattle.carte_state.specs.Runs.{BeginAll}
use Rattle.carte_state.specs.Versions.{AnyKept, InOne, InTwo}
use Rattle.carte_engine.specs.Answers.{IsAnswer, IsPlan, LeadsOver}
use Rattle.carte_engine.specs.Versions.{OverFound, Raises, Under, kept_for}
use Rattle.carte_engine.specs.declared.answer.Answer.{Answer}
use Rattle.carte_engine.specs.declared.answer.Plan.{Plan}
use Rattle.carte_engine.specs.declared.scheduler.Scheduler.{Scheduler}
use Rattle.carte_engine.proofs.Raising.{begins_all, distinct_more, sound_for}

module _ (s : Scheduler) (h : How) (b : Book) (targets : List (List ℕ)) (p : Plan) where
  raised : (A : AnyKept) (Bs : List Batch) (a : Answer) → OverFound (λ K Cs. Cs ≡ p.batches.items) A b Bs → a ≡ p.answer
      → IsPlan s h (InTwo (kept_for A b)) b targets p.batches.items p.answer → IsPlan s h A b targets Bs a
  raised (InOne K) [] a over same plan = absurd over
  raised (InOne K) (B ∷ Bs) a over same plan = record {
    leads = (
      over.0,
      subst (λ (x : Answer). LeadsOver s h b targets x (kept_for (InOne K) b) Bs) (sym same)
          (subst (LeadsOver s h b targets p.answer (kept_for (InOne K) b)) (sym over.1) plan.leads),
    );
    right = subst (IsAnswer s h (kept_for (InOne K) b) b targets) (sym same) plan.right;
  }
  raised (InTwo K) Bs a over same plan =
      subst (λ (x : Answer). IsPlan s h (InTwo K) b targets Bs x) (sym same) (subst (λ Cs. IsPlan s h (InTwo K) b targets Cs p.answer) (sym over) plan)

  raised_plan : (A : AnyKept) (q : Plan) → Raises A b p q → Under (InTwo (kept_for A b)) b (IsPlan s h (InTwo (kept_for A b)) b targets p.batches.items p.answer)
      → Under A b (IsPlan s h A b targets q.batches.items q.answer)
  raised_plan A q raises plan H sound distinct =
      raised A q.batches.items q.answer raises.batches raises.answer (plan (H ++ b ∷ []) (sound_for A H b sound distinct) (distinct_more H b distinct))

  pub if_plan : {E : Type 0} (A : AnyKept) (r : Result Plan E) → IfOk r (Raises A b p) → Under (InTwo (kept_for A b)) b (IsPlan s h (InTwo (kept_for A b)) b targets p.batches.items p.answer)
      → Under A b (IfOk r (λ q. IsPlan s h A b targets q.batches.items q.answer))
  if_plan A (Ok q) raises plan H sound distinct = raised_plan A q raises plan H sound distinct
  if_plan A (Err e) raises plan H sound distinct = tt

-- the answer stays
pub if_shows : {E : Type 0} (shown : Answer → Type 0) (A : AnyKept) (b : Book) (p : Plan) (r : Result Plan E) → IfOk r (Raises A b p) → shown p.answer → IfOk r (λ q. shown q.answer)
if_shows shown A b p (Ok q) raises shows = subst shown (sym raises.answer) shows
if_shows shown A b p (Err e) raises shows = tt

pub if_begins : {E : Type 0} (A : AnyKept) (b : Book) (p : Plan) (r : Result Plan E) → IfOk r (Raises A b p) → IfOk r (λ q. BeginAll A q.batches.items)
if_begins A b p (Ok q) raises = begins_all (λ K Bs. Bs ≡ p.batches.items) A b q.batches.items raises.batches
if_begins A b p (Err e) raises = tt

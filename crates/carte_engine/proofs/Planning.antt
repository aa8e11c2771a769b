-- The plan of a build, under a history that what is kept is sound for.
use Rattle.std.proofs.Common.{◌≡◌, ℕ, List, [], ◌∷◌, ◌++◌, Some, None, Result, Ok, Err, refl, sym, ◌∙◌, subst, inl, inr}
use Rattle.std.specs.Prelude.{IfOk}
use Rattle.carte_book.specs.Book.{Book}
use Rattle.carte_book.specs.declared.reason.Reason.{Reason}
use Rattle.carte_codec.specs.Each.{EachFits}
use Rattle.carte_record.specs.Bodies.{IsUnmarked}
use Rattle.carte_record.specs.declared.batch.Batch.{Batch}
use Rattle.carte_record.specs.declared.entry.Entry.{Entry}
use Rattle.carte_record.specs.Kept.{SomeKept}
use Rattle.carte_mark.specs.declared.base.Begun.{Begun}
use Rattle.carte_mark.specs.Bases.{BeginsWith, beginning_of}
use Rattle.carte_sound.specs.Base.{HasDistinctDigests, IsBase}
use Rattle.carte_sound.specs.Begun.{Beginning, begin}
use Rattle.carte_sound.specs.Held.{How}
use Rattle.carte_sound.specs.LeadsTo.{chain_behind}
use Rattle.carte_sound.specs.Left.{keys_of}
use Rattle.carte_sound.specs.Parts.{PartsRestarting}
use Rattle.carte_sound.specs.Sound.{IsSound}
use Rattle.carte_sound.specs.Treated.{IsDoneInOrder, IsDoneRestarting, IsDoneSuspending}
use Rattle.carte_sound.proofs.Begins.{begun_base, behind_sound, has_last}
use Rattle.carte_note.specs.Notes.{AreUnmarked as NoneMarked}
use Rattle.carte_state.specs.Runs.{AreUnmarked}
use Rattle.carte_state.specs.Versions.{InTwo}
use Rattle.carte_note.specs.Right.{finishes_of}
use Rattle.carte_note.specs.declared.finished.Finished.{Finished}
use Rattle.carte_rebuild.specs.declared.work.Work.{Work}
use Rattle.carte_rebuild.specs.declared.work.WorkEnd.TheVariants.{All, Refused}
use Rattle.carte_rebuild.specs.Ends.{EndsInOrder, EndsRestarting, EndsSuspending, IsGiven, IsWork}
use Rattle.carte_plan.specs.Cuts.{AllUnmarked, PlansParts}
use Rattle.carte_plan.specs.Planned.{IsBuilt}
use Rattle.carte_plan.proofs.PartsLead.{parts_lead}
use Rattle.carte_engine.specs.Answers.{IsPlan}
use Rattle.carte_engine.specs.Reckoned.{AreBatchesOf, EndsBy, IsReckoned}
use Rattle.carte_engine.specs.declared.answer.Answer.TheVariants as answer
use Rattle.carte_engine.specs.declared.answer.Built.{Built}
use Rattle.carte_engine.specs.declared.scheduler.Scheduler.{Scheduler}
use Rattle.carte_engine.specs.declared.scheduler.Scheduler.TheVariants.{Topological, Restarting, Suspending}
use Rattle.carte_engine.proofs.Refusing.{refuses, refuses_nothing}
use Rattle.carte_engine.proofs.Succeeding.{gives_few, starts_once, succeeds}

each_unmarked : (es : List Entry) → NoneMarked es → EachFits IsUnmarked es
each_unmarked [] unmarked = tt
each_unmarked (e ∷ es) unmarked = (unmarked e (inl refl), each_unmarked es (λ f there. unmarked f (inr there)))

pub all_unmarked : (Bs : List Batch) → AllUnmarked Bs → AreUnmarked Bs
all_unmarked [] unmarked = tt
all_unmarked (B ∷ Bs) unmarked = (each_unmarked B.entries unmarked.0, all_unmarked Bs unmarked.1)

-- the batches of work, with its new chain or without one
pub chained_batches : {V E : Type 0} (r : Result V E) (items : V → List Batch) (h : How) (K M : SomeKept) (b : Book) (x : Beginning) (w : Work) (chain : List (List ℕ)) → w.chain ≡ Some chain
    → ((targets : List (List ℕ)) → chain ≡ chain_behind (keys_of (finishes_of w.finished)) M.chain → IsBuilt h K b x (IsDoneRestarting h (begin K x) b targets) w.finished
    → IfOk r (λ v. PartsRestarting h K b targets (items v)))
    → IfOk r (λ v. AreBatchesOf h K M b x w (items v))
chained_batches (Ok v) items h K M b x w chain is leads = record {
  plain = λ none. let e : Some chain ≡ None = sym is ∙ none in cc;
  chained = λ targets new built. leads targets (let e : Some chain ≡ Some (chain_behind (keys_of (finishes_of w.finished)) M.chain) = sym is ∙ new in cc) built;
}
chained_batches (Err e) items h K M b x w chain is leads = tt

pub plain_batches : {V E : Type 0} (r : Result V E) (items : V → List Batch) (h : How) (K M : SomeKept) (b : Book) (x : Beginning) (w : Work) → w.chain ≡ None
    → IfOk r (λ v. PlansParts h K b x w.finished (items v)) → IfOk r (λ v. AreBatchesOf h K M b x w (items v))
plain_batches (Ok v) items h K M b x w is plans = record {
  plain = λ none. plans;
  chained = λ targets new built. let e : Some (chain_behind (keys_of (finishes_of w.finished)) M.chain) ≡ None = sym new ∙ is in cc;
}
plain_batches (Err e) items h K M b x w is plans = tt

module _ (h : How) (K : SomeKept) (b : Book) (targets : List (List ℕ)) (x : Begun) (M : SomeKept) (begins : BeginsWith K b x M) (H : List Book) (sound : IsSound K H) (distinct : HasDistinctDigests (H ++ b ∷ [])) where
  base : IsBase (begin K (beginning_of x)) b (H ++ b ∷ [])
  base = begun_base K b (H ++ b ∷ []) (beginning_of x) (behind_sound K H (b ∷ []) sound) (has_last H b) distinct begins.begun

  pub given : IsGiven (begin K (beginning_of x)) b
  given = (H ++ b ∷ [], base)

  built_by : (done : List ℕ → Type 0) (w : Work) → IsWork h (begin K (beginning_of x)) b done w → IsBuilt h K b (beginning_of x) done w.finished
  built_by done w work = record { now = base.now; right = work.right; order = work.order }

  nothing_built : (fs : List Finished) → fs ≡ [] → IsBuilt h K b (beginning_of x) (λ k. ⊥) fs
  nothing_built fs none = subst (IsBuilt h K b (beginning_of x) (λ k. ⊥)) (sym none) (record {
    now = base.now;
    right = tt;
    order = record { finished = tt; once = tt; only = λ k there. there; each = λ k never. never };
  })

  -- all targets have their values
  pub all_by : (s : Scheduler) (w : Work) (Bs : List Batch) (built : Built) → EndsBy s h M b targets (All w) → AreBatchesOf h K M b (beginning_of x) w Bs → IsReckoned b targets w built
      → IsPlan s h (InTwo K) b targets Bs (answer.Built built)
  all_by Topological w Bs built ends batches reckoned =
      let end = subst (λ L. EndsInOrder h L b targets (All w)) begins.base ends in
      let worked = end.3 given in
      record {
        leads = parts_lead h (λ M k. IsDoneInOrder b targets k) K b (beginning_of x) w.finished Bs begins.begun (batches.plain ends.0) (built_by (IsDoneInOrder b targets) w worked.0);
        right = succeeds Topological h K b targets (beginning_of x) w built begins.begun (end.1, end.2) worked.0 reckoned (starts_once h (begin K (beginning_of x)) b targets (IsDoneInOrder b targets) w built worked.0 worked.1 reckoned);
      }
  all_by Restarting w Bs built ends batches reckoned =
      let end = subst (λ L. EndsRestarting h L b targets (All w)) begins.base ends in
      let worked = end.1 given in
      record {
        leads = batches.chained targets ends.0 (built_by (IsDoneRestarting h (begin K (beginning_of x)) b targets) w worked.1);
        right = succeeds Restarting h K b targets (beginning_of x) w built begins.begun worked.0 worked.1 reckoned (gives_few h (begin K (beginning_of x)) b targets w built worked.2 worked.3 reckoned);
      }
  all_by Suspending w Bs built ends batches reckoned =
      let end = subst (λ L. EndsSuspending h L b targets (All w)) begins.base ends in
      let worked = end.1 given in
      record {
        leads = parts_lead h (λ M k. IsDoneSuspending h M b targets k) K b (beginning_of x) w.finished Bs begins.begun (batches.plain ends.0) (built_by (IsDoneSuspending h (begin K (beginning_of x)) b targets) w worked.1);
        right = succeeds Suspending h K b targets (beginning_of x) w built begins.begun worked.0 worked.1 reckoned (starts_once h (begin K (beginning_of x)) b targets (IsDoneSuspending h (begin K (beginning_of x)) b targets) w built worked.1 worked.2 reckoned);
      }

  -- some target has none
  pub refused_by : (s : Scheduler) (w : Work) (reason : Reason) (Bs : List Batch) → EndsBy s h M b targets (Refused w reason) → AreBatchesOf h K M b (beginning_of x) w Bs
      → IsPlan s h (InTwo K) b targets Bs (answer.Refused reason w.runs)
  refused_by Topological w reason Bs ends batches =
      let end = subst (λ L. EndsInOrder h L b targets (Refused w reason)) begins.base ends in
      record {
        leads = parts_lead h (λ M k. ⊥) K b (beginning_of x) w.finished Bs begins.begun (batches.plain ends.0) (nothing_built w.finished end.2.finished);
        right = refuses_nothing h K b targets (beginning_of x) w reason begins.begun end.1 end.2.runs;
      }
  refused_by Restarting w reason Bs ends batches =
      let end = subst (λ L. EndsRestarting h L b targets (Refused w reason)) begins.base ends in
      let worked = end.1 given in
      record {
        leads = batches.chained targets ends.0 (built_by (IsDoneRestarting h (begin K (beginning_of x)) b targets) w worked.1);
        right = refuses Restarting h K b targets (beginning_of x) w reason begins.begun worked.0 worked.1 worked.2;
      }
  refused_by Suspending w reason Bs ends batches =
      let end = subst (λ L. EndsSuspending h L b targets (Refused w reason)) begins.base ends in
      let worked = end.1 given in
      record {
        leads = parts_lead h (λ M k. IsDoneSuspending h M b targets k) K b (beginning_of x) w.finished Bs begins.begun (batches.plain ends.0) (built_by (IsDoneSuspending h (begin K (beginning_of x)) b targets) w worked.1);
        right = refuses Suspending h K b targets (beginning_of x) w reason begins.begun worked.0 worked.1 (record { once = worked.2.once; only = worked.2.only; each = worked.2.each });
      }

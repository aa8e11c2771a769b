-- What the batches of a build leave, with each scheduler.
use Rattle.std.proofs.Common.{◌≡◌, ℕ, List, [], ◌∷◌, ◌++◌, sym, subst}
use Rattle.carte_book.specs.Book.{Book}
use Rattle.carte_record.specs.declared.batch.Batch.{Batch}
use Rattle.carte_record.specs.declared.way.Way.TheVariants.{Verifying, Constructive, Deep}
use Rattle.carte_record.specs.Folds.{applied}
use Rattle.carte_record.specs.Kept.{SomeKept}
use Rattle.carte_sound.specs.Base.{HasDistinctDigests}
use Rattle.carte_sound.specs.Begun.{Beginning, IsBeginning, begin}
use Rattle.carte_sound.specs.Held.{How, dirty, tracing}
use Rattle.carte_sound.specs.LeadsTo.{Chaining, chain_behind, chain_stays}
use Rattle.carte_sound.specs.Parts.{BringsParts, PartsRestarting, PartsSuspending}
use Rattle.carte_sound.specs.Results.{IsKeptNow}
use Rattle.carte_sound.specs.Sound.{IsSound}
use Rattle.carte_sound.specs.Treated.{IsDoneInOrder, IsDoneRestarting, IsDoneSuspending}
use Rattle.carte_sound.proofs.Histories.{longer_sound}
use Rattle.carte_sound.proofs.Keeping.{ordered_reached, restarted_reached, suspended_reached}
use Rattle.carte_sound.proofs.Leading.{KeepsOnce, behind_once}
use Rattle.carte_sound.proofs.PartsSound.{parts_kept, parts_left, stations_sound}
use Rattle.carte_sound_one.specs.Up.{up}
use Rattle.carte_plan.proofs.Orders.{begins_alike}
use Rattle.carte_state.specs.Runs.{applied_to}
use Rattle.carte_state.specs.Versions.{AnyKept, InOne, InTwo, two_of}
use Rattle.carte_engine.specs.Answers.{Leads, LeadsOver}
use Rattle.carte_engine.specs.Schedulers.{IsServed, KeepsBy, KeepsReached}
use Rattle.carte_engine.specs.Versions.{IsSoundAny, kept_for}
use Rattle.carte_engine.specs.declared.answer.Answer.{Answer}
use Rattle.carte_engine.specs.declared.answer.Answer.TheVariants as answer
use Rattle.carte_engine.specs.declared.answer.Built.{Built}
use Rattle.carte_engine.specs.declared.scheduler.Scheduler.{Scheduler}
use Rattle.carte_engine.specs.declared.scheduler.Scheduler.TheVariants.{Topological, Restarting, Suspending}
use Rattle.carte_engine.proofs.Raising.{applied_behind, applied_two, distinct_more, once_more, sound_behind, sound_for}

stays_once : KeepsOnce chain_stays
stays_once ks old once before = before

-- ---- over what a build finds

over_sound : (s : Scheduler) (h : How) (K : SomeKept) (H : List Book) (b : Book) (targets : List (List ℕ)) (a : Answer) (some rest : List Batch)
    → IsSound K H → HasDistinctDigests (H ++ b ∷ []) → LeadsOver s h b targets a K (some ++ rest) → IsSound (applied K some) (H ++ b ∷ [])
over_sound Topological h K H b targets (answer.Built built) some rest sound distinct leads = stations_sound h (λ M k. IsDoneInOrder b targets k) chain_stays K H b sound distinct stays_once some rest leads
over_sound Topological h K H b targets (answer.Refused reason runs) some rest sound distinct leads = stations_sound h (λ M k. ⊥) chain_stays K H b sound distinct stays_once some rest leads
over_sound Restarting h K H b targets a some rest sound distinct leads = stations_sound h (λ M k. IsDoneRestarting h M b targets k) chain_behind K H b sound distinct behind_once some rest leads
over_sound Suspending h K H b targets a some rest sound distinct leads = stations_sound h (λ M k. IsDoneSuspending h M b targets k) chain_stays K H b sound distinct stays_once some rest leads

module _ (h : How) (K : SomeKept) (H : List Book) (b : Book) (Bs : List Batch) (sound : IsSound K H) (distinct : HasDistinctDigests (H ++ b ∷ [])) where
  -- under deep traces each rule that is done over what the build begins with
  deep_keeps : (done : SomeKept → List ℕ → Type 0) (chained : Chaining) → KeepsOnce chained → BringsParts h done chained K b Bs
      → (x : Beginning) → IsBeginning K b x → (k : List ℕ) → done (begin K x) k → IsKeptNow (applied K Bs) b k
  deep_keeps done chained once r x begins k is_done =
      parts_kept h done chained K H b sound distinct once Bs r k (subst (λ M. done M k) (begins_alike K b x r.begun begins r.begins) is_done)

  module _ (targets : List (List ℕ)) where
    suspended : ¬ (h ≡ tracing Deep) → IsServed Suspending b targets → PartsSuspending h K b targets Bs → KeepsReached (applied K Bs) b targets
    suspended shallow served leads = suspended_reached h K H b targets (applied K Bs) sound distinct served shallow (parts_left h (λ M k. IsDoneSuspending h M b targets k) chain_stays K b Bs leads)

    restarted : ¬ (h ≡ tracing Deep) → IsServed Restarting b targets → PartsRestarting h K b targets Bs → KeepsReached (applied K Bs) b targets
    restarted shallow served leads = restarted_reached h K H b targets (applied K Bs) sound distinct served shallow (parts_left h (λ M k. IsDoneRestarting h M b targets k) chain_behind K b Bs leads)

over_keeps : (s : Scheduler) (h : How) (K : SomeKept) (H : List Book) (b : Book) (targets : List (List ℕ)) (built : Built) (Bs : List Batch)
    → IsSound K H → HasDistinctDigests (H ++ b ∷ []) → IsServed s b targets → LeadsOver s h b targets (answer.Built built) K Bs → KeepsBy s h K (applied K Bs) b targets
over_keeps Topological h K H b targets built Bs sound distinct served leads = ordered_reached h K H b targets (applied K Bs) sound distinct served.1 (parts_left h (λ M k. IsDoneInOrder b targets k) chain_stays K b Bs leads)
over_keeps Restarting dirty K H b targets built Bs sound distinct served leads = restarted dirty K H b Bs sound distinct targets (λ (deep : dirty ≡ tracing Deep). cc) served leads
over_keeps Restarting (tracing Verifying) K H b targets built Bs sound distinct served leads = restarted (tracing Verifying) K H b Bs sound distinct targets (λ (deep : tracing Verifying ≡ tracing Deep). cc) served leads
over_keeps Restarting (tracing Constructive) K H b targets built Bs sound distinct served leads = restarted (tracing Constructive) K H b Bs sound distinct targets (λ (deep : tracing Constructive ≡ tracing Deep). cc) served leads
over_keeps Restarting (tracing Deep) K H b targets built Bs sound distinct served leads = deep_keeps (tracing Deep) K H b Bs sound distinct (λ M k. IsDoneRestarting (tracing Deep) M b targets k) chain_behind behind_once leads
over_keeps Suspending dirty K H b targets built Bs sound distinct served leads = suspended dirty K H b Bs sound distinct targets (λ (deep : dirty ≡ tracing Deep). cc) served leads
over_keeps Suspending (tracing Verifying) K H b targets built Bs sound distinct served leads = suspended (tracing Verifying) K H b Bs sound distinct targets (λ (deep : tracing Verifying ≡ tracing Deep). cc) served leads
over_keeps Suspending (tracing Constructive) K H b targets built Bs sound distinct served leads = suspended (tracing Constructive) K H b Bs sound distinct targets (λ (deep : tracing Constructive ≡ tracing Deep). cc) served leads
over_keeps Suspending (tracing Deep) K H b targets built Bs sound distinct served leads = deep_keeps (tracing Deep) K H b Bs sound distinct (λ M k. IsDoneSuspending (tracing Deep) M b targets k) chain_stays stays_once leads

-- ---- over what is kept, of either version

pub plan_sound : (s : Scheduler) (h : How) (A : AnyKept) (H : List Book) (b : Book) (targets : List (List ℕ)) (a : Answer) (some rest : List Batch)
    → IsSoundAny A H → HasDistinctDigests (H ++ b ∷ []) → Leads s h A b targets a (some ++ rest) → IsSoundAny (applied_to A some) (H ++ b ∷ [])
plan_sound s h (InTwo K) H b targets a some rest sound distinct leads =
    subst (λ L. IsSoundAny L (H ++ b ∷ [])) (sym (applied_two K some)) (over_sound s h K H b targets a some rest sound distinct leads)
plan_sound s h (InOne K) H b targets a [] rest sound distinct leads = sound_behind (InOne K) H (b ∷ []) sound
plan_sound s h (InOne K) H b targets a (B ∷ some) rest sound distinct leads =
    let J = H ++ b ∷ [] in
    let over : IsSound (applied (up K b) some) (J ++ b ∷ []) = over_sound s h (up K b) J b targets a some rest (sound_for (InOne K) H b sound distinct) (distinct_more H b distinct) leads.1 in
    subst (λ L. IsSoundAny L J) (sym (applied_behind K b B some leads.0)) (longer_sound (applied (up K b) some) (J ++ b ∷ []) J (once_more H b) over)

pub plan_keeps : (s : Scheduler) (h : How) (A : AnyKept) (H : List Book) (b : Book) (targets : List (List ℕ)) (built : Built) (Bs : List Batch)
    → IsSoundAny A H → HasDistinctDigests (H ++ b ∷ []) → IsServed s b targets → Leads s h A b targets (answer.Built built) Bs → KeepsBy s h (kept_for A b) (two_of (applied_to A Bs)) b targets
plan_keeps s h (InTwo K) H b targets built Bs sound distinct served leads =
    subst (λ L. KeepsBy s h K (two_of L) b targets) (sym (applied_two K Bs)) (over_keeps s h K H b targets built Bs sound distinct served leads)
plan_keeps s h (InOne K) H b targets built [] sound distinct served leads = absurd leads
plan_keeps s h (InOne K) H b targets built (B ∷ Bs) sound distinct served leads =
    subst (λ L. KeepsBy s h (up K b) (two_of L) b targets) (sym (applied_behind K b B Bs leads.0))
    (over_keeps s h (up K b) (H ++ b ∷ []) b targets built Bs (sound_for (InOne K) H b sound distinct) (distinct_more H b distinct) served leads.1)

-- Stretches of steps, one behind the other.
use Rattle.std.proofs.Common.{◌≡◌, ◌⊎◌, ℕ, ◌+◌, ◌<◌, ◌≤◌, Bool, true, false, cond, List, [], ◌∷◌, ◌++◌, Some, None, Result, Ok, Err, sym, ◌∙◌, ap, subst, inl, inr, arith, append-nil}
use Rattle.carte_io.specs.Disk.{CountsUp, Story, moments}
use Rattle.carte_io.specs.Stations.{Step, StepsThrough, calls_in, last_of}
use Rattle.carte_io.proofs.Acknowledged.{AreMade, calls_in-append, last_of-append, steps_none, steps_then}
use Rattle.carte_io.proofs.Images.{leaves_none}
use Rattle.carte_journal.specs.Journals.{Standing}
use Rattle.carte_journal.specs.Regions.{calls_to_turn}
use Rattle.carte_record.specs.declared.batch.Batch.{Batch}
use Rattle.carte_state.specs.Applying.{Applies}
use Rattle.carte_state.specs.Around.{OverDisk}
use Rattle.carte_state.specs.Folding.{Keeps}
use Rattle.carte_state.specs.States.{IsKeptOn, Stand, any_in, calls_for, step_for}
use Rattle.carte_state.specs.Versions.{AnyKept, apply_to}
use Rattle.carte_state.specs.declared.fault.ApplyFault.{ApplyFault}
use Rattle.carte_state.specs.declared.fault.ApplyFault.TheVariants.{DiskFault, Full, NoMemory}
use Rattle.carte_state.proofs.Applies.{kept_leaves}
use Rattle.carte_state.proofs.Runs.{calls_in-steps_of, last_of-steps_of, made_step_for}
use Rattle.carte_compact.specs.Rewriting.{step_again}
use Rattle.carte_engine.specs.Committing.{HasPassed, behind, step_begun}

-- ---- two stretches

pub both_made : {A : Type 0} (bs cs : List (Step A)) → AreMade bs → AreMade cs → AreMade (bs ++ cs)
both_made [] cs made more = more
both_made (b ∷ bs) cs made more = (made.0, both_made bs cs made.1 more)

pub both_calls : {A : Type 0} (bs cs : List (Step A)) (s mid t : ℕ) → mid ≡ s + calls_in bs → t ≡ mid + calls_in cs → t ≡ s + calls_in (bs ++ cs)
both_calls bs cs s mid t made more = omega (arith, made, more, calls_in-append bs cs)

-- of the second one not all calls passed, where the disk failed
pub both_passed : (d : OverDisk) (mid between : Story) (bs cs : List (Step AnyKept)) (fault : ApplyFault) → mid.now.passed ≡ d.old.now.passed + calls_in bs
    → HasPassed (behind d mid) between cs fault → HasPassed d between (bs ++ cs) fault
both_passed d mid between bs cs DiskFault made passed = (passed.0, omega (arith, made, passed.1, calls_in-append bs cs))
both_passed d mid between bs cs (Full needed limit) made passed = both_calls bs cs d.old.now.passed mid.now.passed d.new.now.passed made passed
both_passed d mid between bs cs NoMemory made passed = both_calls bs cs d.old.now.passed mid.now.passed d.new.now.passed made passed

pub passed_since : (d : OverDisk) (earlier later : Story) (steps : List (Step AnyKept)) (fault : ApplyFault) → earlier.now.passed ≤ later.now.passed
    → HasPassed d later steps fault → HasPassed d earlier steps fault
passed_since d earlier later steps DiskFault less passed = (omega (arith, less, passed.0), passed.1)
passed_since d earlier later steps (Full needed limit) less passed = passed
passed_since d earlier later steps NoMemory less passed = passed

-- at the end of a stretch the calls have counted up, or it has no step and nothing has changed
abbrev pub EndsWell : List (Step AnyKept) → Story → Story → Type 0
EndsWell steps old new = ((steps ≡ []) × (new ≡ old)) ⊎ CountsUp (moments new)

pub both_well : (bs cs : List (Step AnyKept)) (s mid t : Story) → EndsWell bs s mid → EndsWell cs mid t → EndsWell (bs ++ cs) s t
both_well bs cs s mid t well (inr up) = inr up
both_well bs cs s mid t (inl none) (inl more) = inl (ap (λ xs. xs ++ cs) none.0 ∙ more.0, more.1 ∙ none.1)
both_well bs cs s mid t (inr up) (inl more) = inr (subst (λ (u : Story). CountsUp (moments u)) (sym more.1) up)

-- the images stand through both
pub both_through : (At : AnyKept → List ℕ → Type 0) (K : AnyKept) (bs cs : List (Step AnyKept)) (s mid t : Story) → StepsThrough At K bs s mid → mid.now.passed ≡ s.now.passed + calls_in bs
    → EndsWell cs mid t → AreMade cs → StepsThrough At (last_of K bs) cs mid t → StepsThrough At K (bs ++ cs) s t
both_through At K bs cs s mid t steps made (inl none) some more =
    subst (λ xs. StepsThrough At K (bs ++ xs) s t) (sym none.0)
    (subst (λ xs. StepsThrough At K xs s t) (sym (append-nil bs)) (subst (λ (u : Story). StepsThrough At K bs s u) (sym none.1) steps))
both_through At K bs cs s mid t steps made (inr up) some more = steps_then At K bs cs s mid t steps made up some more

-- nothing is done
pub none_through : (s : Stand) (old new : Story) → new ≡ old → IsKeptOn s old → StepsThrough (Keeps s.journal.limit) (any_in s) [] old new
none_through s old new same on = steps_none (Keeps s.journal.limit) (any_in s) old new (leaves_none old new (Keeps s.journal.limit (any_in s)) same (kept_leaves s old on))

-- ---- the steps of a rewriting and of a batch

pub again_made : (s : Stand) → AreMade (step_again s)
again_made s = (elim s.journal.bank as (λ bank. 0 < calls_to_turn bank) [ None ↦ omega arith | Some roots ↦ turned roots.both ], tt)
  where
    turned : (both : Bool) → 0 < cond both 7 5
    turned true = omega arith
    turned false = omega arith

module _ (j : Standing) (K : AnyKept) (B : Batch) where
  pub begun_made : (result : Result (Unit {0}) ApplyFault) → AreMade (step_begun j K B result)
  begun_made (Ok done) = made_step_for j K B
  begun_made (Err DiskFault) = made_step_for j K B
  begun_made (Err (Full needed limit)) = tt
  begun_made (Err NoMemory) = tt

  pub batch_calls : calls_in (step_for j K B) ≡ calls_for j B
  batch_calls = omega (arith, calls_in-steps_of j K (B ∷ []), calls_in-append (step_for j K B) [])

  pub batch_last : last_of K (step_for j K B) ≡ apply_to B K
  batch_last = sym (last_of-append K (step_for j K B) []) ∙ last_of-steps_of j K (B ∷ [])

-- ---- the step of a batch that was put, or not

module _ (d : OverDisk) (old new : Stand) (B : Batch) where
  pub begun_through : (result : Result (Unit {0}) ApplyFault) → Applies d old new B result → d.tells → IsKeptOn old d.old
      → StepsThrough (Keeps old.journal.limit) (any_in old) (step_begun old.journal (any_in old) B result) d.old d.new
  begun_through (Ok done) applies told on = applies.steps told on
  begun_through (Err DiskFault) applies told on = applies.steps told on
  begun_through (Err (Full needed limit)) applies told on = none_through old d.old d.new applies.comes.1.disk.story on
  begun_through (Err NoMemory) applies told on = none_through old d.old d.new applies.comes.1.disk.story on

  pub begun_passed : (K : AnyKept) (fault : ApplyFault) → Applies d old new B (Err fault) → d.tells → HasPassed d d.old (step_begun old.journal K B (Err fault)) fault
  begun_passed K DiskFault applies told = let few = applies.comes.few told in (few.0, omega (arith, few.1, batch_calls old.journal K B))
  begun_passed K (Full needed limit) applies told = omega (arith, ap (λ (u : Story). u.now.passed) applies.comes.1.disk.story)
  begun_passed K NoMemory applies told = omega (arith, ap (λ (u : Story). u.now.passed) applies.comes.1.disk.story)

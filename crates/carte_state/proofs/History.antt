-- What was acknowledged in any run of a history is kept by each later file.
use Rattle.std.proofs.Common.{◌≡◌, ℕ, Bool, true, false, if◌then◌else◌, List, [], ◌∷◌, ◌++◌, arith, refl, sym, ap, subst, ◌⊎◌, inl, inr}
use Rattle.carte_io.specs.Stations.{IsAtOneOf, Step, StepsThrough, last_of}
use Rattle.carte_io.proofs.Acknowledged.{steps_stand}
use Rattle.carte_io.proofs.Images.{reads_image}
use Rattle.carte_journal.specs.Journals.{Standing, calls_of}
use Rattle.carte_record.specs.Folds.{apply}
use Rattle.carte_record.specs.declared.batch.Batch.{Batch}
use Rattle.carte_record.specs.Empty.{is_empty}
use Rattle.carte_state.specs.Folding.{Keeps}
use Rattle.carte_state.specs.Histories.{Batches, HistoryKeeps, IsRun}
use Rattle.carte_state.specs.Runs.{applied_to, journal_behind, steps_of}
use Rattle.carte_state.specs.States.{any_in, journal_after}
use Rattle.carte_state.specs.Versions.{AnyKept, InTwo, apply_to, two_of}
use Rattle.carte_state.proofs.Applies.{kept_leaves}
use Rattle.carte_state.proofs.Folds.{keeps_one}
use Rattle.carte_state.proofs.Runs.{calls_in-steps_of, last_of-steps_of, steps_of-append}

-- a file at one of the stations of batches keeps what some first ones of them make
pub record KeepsSome (limit : ℕ) (K : AnyKept) (Bs : List Batch) (file : List ℕ) : Type 0 where
  pub more : List Batch
  pub rest : List Batch
  pub all : Bs ≡ more ++ rest
  pub keeps : Keeps limit (applied_to K more) file

some_more : (limit : ℕ) (K : AnyKept) (B : Batch) (Bs : List Batch) (file : List ℕ) → KeepsSome limit (apply_to B K) Bs file → KeepsSome limit K (B ∷ Bs) file
some_more limit K B Bs file some = record { more = B ∷ some.more; rest = some.rest; all = ap (λ Cs. B ∷ Cs) some.all; keeps = some.keeps }

-- before the first of the batches, or behind it
first_or_more : (limit : ℕ) (j : Standing) (K : AnyKept) (Bs : List Batch) (file : List ℕ) (empty : Bool) (step : Step AnyKept)
    → ((L : AnyKept) → IsAtOneOf (Keeps limit) L (steps_of j L Bs) file → KeepsSome limit L Bs file)
    → IsAtOneOf (Keeps limit) K ((if empty then [] else step ∷ []) ++ steps_of j (if empty then K else step.to) Bs) file
    → Keeps limit K file ⊎ KeepsSome limit (if empty then K else step.to) Bs file
first_or_more limit j K Bs file true step on at = inr (on K at)
first_or_more limit j K Bs file false step on (inl at) = inl at
first_or_more limit j K Bs file false step on (inr at) = inr (on step.to at)

joined : (limit : ℕ) (K : AnyKept) (B : Batch) (Bs : List Batch) (file : List ℕ) → Keeps limit K file ⊎ KeepsSome limit (apply_to B K) Bs file → KeepsSome limit K (B ∷ Bs) file
joined limit K B Bs file (inl at) = record { more = []; rest = B ∷ Bs; all = refl; keeps = at }
joined limit K B Bs file (inr some) = some_more limit K B Bs file some

keeps_some : (limit : ℕ) (j : Standing) (K : AnyKept) (Bs : List Batch) (file : List ℕ) → IsAtOneOf (Keeps limit) K (steps_of j K Bs) file
    → KeepsSome limit K Bs file
keeps_some limit j K [] file at = record { more = []; rest = []; all = refl; keeps = at }
keeps_some limit j K (B ∷ Bs) file at =
    joined limit K B Bs file
    (first_or_more limit (journal_after j B) K Bs file (is_empty B) (record { calls = calls_of j; to = InTwo (apply B (two_of K)) }) (λ L there. keeps_some limit (journal_after j B) L Bs file there) at)

-- one run
pub run_keeps : (limit : ℕ) (K : AnyKept) (file image : List ℕ) (run : Batches) → Keeps limit K file → IsRun limit file run image
    → KeepsSome limit (applied_to K run.acknowledged) run.others image
run_keeps limit K file image run keeps is =
    let j = is.state.journal in
    let L = any_in is.state in
    let here : Keeps limit L is.old.now.reads =
    subst (λ l. Keeps l L is.old.now.reads) is.limit_is (kept_leaves is.state is.old is.loaded is.old.now.reads (reads_image is.old.now is.loaded.rest.settled)) in
    let same : L ≡ K = keeps_one limit file L K (subst (Keeps limit L) is.file_is here) keeps in
    let steps : StepsThrough (Keeps limit) L (steps_of j L run.acknowledged ++ steps_of (journal_behind j run.acknowledged) (applied_to L run.acknowledged) run.others) is.old is.new =
    subst (λ qs. StepsThrough (Keeps limit) L qs is.old is.new) (steps_of-append j L run.acknowledged run.others) is.steps in
    let at : IsAtOneOf (Keeps limit) (last_of L (steps_of j L run.acknowledged)) (steps_of (journal_behind j run.acknowledged) (applied_to L run.acknowledged) run.others) image =
    steps_stand (Keeps limit) L (steps_of j L run.acknowledged) (steps_of (journal_behind j run.acknowledged) (applied_to L run.acknowledged) run.others) is.old is.new steps
    (omega (arith, is.passed, calls_in-steps_of j L run.acknowledged)) image is.left in
    subst (λ M. KeepsSome limit (applied_to M run.acknowledged) run.others image) same
    (keeps_some limit (journal_behind j run.acknowledged) (applied_to L run.acknowledged) run.others image
    (subst (λ M. IsAtOneOf (Keeps limit) M (steps_of (journal_behind j run.acknowledged) (applied_to L run.acknowledged) run.others) image)
    (last_of-steps_of j L run.acknowledged) at))

pub history_keeps : HistoryKeeps
history_keeps limit K file last [] keeps is = subst (Keeps limit K) (sym is) keeps
history_keeps limit K file last (run ∷ runs) keeps (image, is, more) =
    let some = run_keeps limit K file image run keeps is in
    (some.more, some.rest, some.all, history_keeps limit (applied_to (applied_to K run.acknowledged) some.more) image last runs some.keeps more)

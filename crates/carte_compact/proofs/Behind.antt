-- A rewriting and a batch behind it, as steps.
use Rattle.std.proofs.Common.{◌≡◌, ◌⊎◌, ℕ, Bool, true, false, if◌then◌else◌, List, [], ◌∷◌, ◌++◌, ap, ◌∙◌, subst, inl, inr, arith}
use Rattle.carte_io.specs.Stations.{IsAtOneOf, Step, StepsThrough}
use Rattle.carte_io.proofs.Acknowledged.{steps_leave, steps_then}
use Rattle.carte_io.proofs.Images.{leaves_more}
use Rattle.carte_journal.specs.Journals.{calls_of}
use Rattle.carte_record.specs.Empty.{is_empty}
use Rattle.carte_record.specs.Folds.{apply}
use Rattle.carte_record.specs.Kept.{kept_view}
use Rattle.carte_state.specs.Folding.{Keeps}
use Rattle.carte_state.specs.States.{any_in, any_of, step_for}
use Rattle.carte_state.specs.Versions.{AnyKept, InTwo, two_of}
use Rattle.carte_state.proofs.Runs.{made_step_for}
use Rattle.carte_compact.specs.Laws.{KeptThroughout, StationsBehind, StepsBehind}
use Rattle.carte_compact.specs.Rewriting.{step_again}

one_of_two : {A : Type 0} (o : A ⊎ A) → A
one_of_two (inl a) = a
one_of_two (inr a) = a

pub kept_throughout : KeptThroughout
kept_throughout s old new ordered steps =
    leaves_more old new (IsAtOneOf (Keeps s.journal.limit) (any_in s) (step_again s)) (Keeps s.journal.limit (any_in s)) (λ image at. one_of_two at)
    (steps_leave (Keeps s.journal.limit) (any_in s) (step_again s) old new ordered steps)

pub steps_behind : StepsBehind
steps_behind s t B old mid new renewed applied =
    let K = any_in s in
    let same : any_in t ≡ K = ap (λ k. any_of t.one (kept_view k)) renewed.kept ∙ ap (λ o. any_of o (kept_view s.kept)) renewed.one in
    let more : StepsThrough (Keeps s.journal.limit) K (step_for t.journal K B) mid new =
    subst (λ limit. StepsThrough (Keeps limit) K (step_for t.journal K B) mid new) renewed.limit
    (subst (λ M. StepsThrough (Keeps t.journal.limit) M (step_for t.journal M B) mid new) same applied.steps) in
    steps_then (Keeps s.journal.limit) K (step_again s) (step_for t.journal K B) old mid new renewed.steps (omega (arith, renewed.calls)) applied.ordered
    (made_step_for t.journal K B) more

at_two : (At : AnyKept → List ℕ → Type 0) (K L : AnyKept) (calls : ℕ) (empty : Bool) (file : List ℕ)
    → At K file ⊎ IsAtOneOf At K (if empty then [] else let step : Step AnyKept = record { calls = calls; to = L } in step ∷ []) file → At K file ⊎ At (if empty then K else L) file
at_two At K L calls empty file (inl at) = inl at
at_two At K L calls true file (inr at) = inl at
at_two At K L calls false file (inr at) = at

pub stations_behind : StationsBehind
stations_behind s t B old mid new renewed applied =
    let K = any_in s in
    leaves_more old new (IsAtOneOf (Keeps s.journal.limit) K (step_again s ++ step_for t.journal K B)) _
    (λ image at. at_two (Keeps s.journal.limit) K (InTwo (apply B (two_of K))) (calls_of t.journal) (is_empty B) image at)
    (steps_leave (Keeps s.journal.limit) K (step_again s ++ step_for t.journal K B) old new applied.ordered (steps_behind s t B old mid new renewed applied))

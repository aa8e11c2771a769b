-- What the batch that empties a state makes of it.
use Rattle.std.proofs.Common.{◌≡◌, Bool, true, false, not, ◌&&◌, List, [], Option, Some, None, is_some, refl, ap, sym, ◌∙◌}
use Rattle.std.specs.Prelude.{if◌then◌else◌}
use Rattle.std.proofs.Math.Path.{fun_ext}
use Rattle.carte_record.specs.declared.batch.Batch.{Batch}
use Rattle.carte_record.specs.declared.kept.Kept.{Kept}
use Rattle.carte_record.specs.declared.start.Start.TheVariants.{Cleared}
use Rattle.carte_record.specs.declared.way.Way.{Way}
use Rattle.carte_record.specs.declared.way.Way.TheVariants.{Verifying, Constructive, Deep}
use Rattle.carte_record.specs.Empty.{is_bare, is_empty}
use Rattle.carte_record.specs.Folds.{apply, batch_traces}
use Rattle.carte_record.specs.Kept.{SomeKept, kept_view, nothing_kept, traces_in}
use Rattle.carte_record.specs.Ways.{TraceBy}
use Rattle.carte_record.proofs.Empties.{bare_kept}
use Rattle.carte_sound.specs.LeadsTo.{empty_batch}
use Rattle.carte_sound.proofs.Emptied.{empty_applied}
use Rattle.carte_plan.proofs.Lists.{empty_is}
use Rattle.carte_record_one.specs.declared.kept.KeptOne.{KeptOne}
use Rattle.carte_state.specs.States.{Stand, any_in, any_of}
use Rattle.carte_state.specs.Versions.{Begins, InTwo, apply_to}
use Rattle.carte_engine.specs.Clearing.{clearing, keeps_nothing}
use Rattle.carte_engine.proofs.Raising.{apply_two}

-- the batch, once the test is known
abbrev pub cleared_by : Bool → Batch
cleared_by bare = if bare then empty_batch else record empty_batch { start = Cleared }

no_trace : (w : Way) → batch_traces w (record empty_batch { start = Cleared }) ≡ []
no_trace Verifying = refl
no_trace Constructive = refl
no_trace Deep = refl

empties_by : (K : SomeKept) (bare : Bool) → (bare ≡ true → K ≡ nothing_kept) → apply (cleared_by bare) K ≡ nothing_kept
empties_by K true nothing = empty_applied K ∙ nothing refl
empties_by K false nothing = ap (λ (f : (w : Way) → List (TraceBy w)). record nothing_kept { traces = λ w k. traces_in w k (f w) [] }) (fun_ext no_trace)

-- nothing is kept behind it, of either version
module _ (K : Kept) where
  empties : (o : Option KeptOne) → apply_to (cleared_by (not (is_some o) && is_bare K)) (any_of o (kept_view K)) ≡ InTwo nothing_kept
  empties None = apply_two (kept_view K) (cleared_by (is_bare K)) ∙ ap InTwo (empties_by (kept_view K) (is_bare K) (bare_kept K))
  empties (Some J) = ap InTwo (empties_by nothing_kept false (λ never. refl))

  begins : (o : Option KeptOne) → Begins (any_of o (kept_view K)) (cleared_by (not (is_some o) && is_bare K))
  begins None = tt
  begins (Some J) = refl

pub clearing_empties : (s : Stand) → apply_to (clearing s) (any_in s) ≡ InTwo nothing_kept
clearing_empties s = empties s.kept s.one

pub clears : (s : Stand) (bare : Bool) (B : Batch) → is_empty B ≡ true → bare ≡ keeps_nothing s → bare ≡ false → record B { start = Cleared } ≡ clearing s
clears s bare B empty test is = ap (λ (C : Batch). record C { start = Cleared }) (empty_is B empty) ∙ sym (ap cleared_by (sym test ∙ is))

pub leaves_bare : (s : Stand) (bare : Bool) (B : Batch) → is_empty B ≡ true → bare ≡ keeps_nothing s → bare ≡ true → B ≡ clearing s
leaves_bare s bare B empty test is = empty_is B empty ∙ sym (ap cleared_by (sym test ∙ is))

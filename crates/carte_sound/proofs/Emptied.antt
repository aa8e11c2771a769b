-- A batch that brings nothing changes nothing.
use Rattle.std.proofs.Common.{◌≡◌, ℕ, false, List, Option, Some, None, option_map, refl, ap, ◌∙◌}
use Rattle.std.proofs.Math.Path.{fun_ext}
use Rattle.std.specs.Option.{option_or}
use Rattle.carte_value.specs.declared.digest.Digest.{Digest}
use Rattle.carte_value.specs.declared.value.Value.{Value}
use Rattle.carte_record.specs.declared.entry.Entry.{Entry}
use Rattle.carte_record.specs.Ways.{TraceBy}
use Rattle.carte_record.specs.declared.way.Way.{Way}
use Rattle.carte_record.specs.declared.way.Way.TheVariants.{Verifying, Constructive, Deep}
use Rattle.carte_record.specs.Folds.{batch_traces, apply}
use Rattle.carte_record.specs.Kept.{SomeKept, traces_in, staled}
use Rattle.carte_sound.specs.LeadsTo.{empty_batch}

pub unmarked : (o : Option Entry) → option_map (staled false) o ≡ o
unmarked None = refl
unmarked (Some e) = refl

pub nothing_more : (o : Option Value) → option_or o None ≡ o
nothing_more None = refl
nothing_more (Some v) = refl

pub no_traces : (w : Way) (k : List ℕ) (ts : List (TraceBy w)) → traces_in w k (batch_traces w empty_batch) ts ≡ ts
no_traces Verifying k ts = refl
no_traces Constructive k ts = refl
no_traces Deep k ts = refl

pub empty_applied : (K : SomeKept) → apply empty_batch K ≡ K
empty_applied K =
    ap (λ (f : (w : Way) → List ℕ → List (TraceBy w)). record K { entries = λ k. option_map (staled false) (K.entries k); traces = f; stored = λ d. option_or (K.stored d) None }) (fun_ext (λ w. fun_ext (λ k. no_traces w k (K.traces w k))))
    ∙ ap (λ (f : List ℕ → Option Entry). record K { entries = f; stored = λ d. option_or (K.stored d) None }) (fun_ext (λ k. unmarked (K.entries k)))
    ∙ ap (λ (f : Digest → Option Value). record K { stored = f }) (fun_ext (λ d. nothing_more (K.stored d)))

-- The top call over real files and streams, no call of which was made before.
use Rattle.std.proofs.Common.{◌≡◌, ℕ, List, [], subst}
use Rattle.carte_io.specs.Streams.{SourceState, unread}
use Rattle.carte_report.specs.declared.status.Status.{Status}
use Rattle.carte_top.specs.Around.{Around, OverSource, OverDisk, OverSink}
use Rattle.carte_top.specs.Whole.{IsOutcome}
use Rattle.carte.specs.Ends.{OverBoth}

abbrev pub real_source : SourceState → SourceState → OverSource
real_source old new = record { tells = ⊥; old = old; new = new }

abbrev pub real_sink : ℕ → ℕ → OverSink
real_sink before after = record { tells = ⊥; old = record { taken = []; handed = 0; faults = before }; new = record { taken = []; handed = 0; faults = after } }

module _ (words : List (List ℕ)) (book : OverSource) (state : OverDisk) (status : Status) where
  abbrev Comes : OverSource → OverSink → OverSink → Type 0
  Comes script out err = IsOutcome 536870912 (record { words = words; book = book; script = script; state = state; out = out; err = err }) status

  pub over_real : (old new : SourceState) (out_before out err_before err : ℕ) → old ≡ unread → out_before ≡ 0 → err_before ≡ 0
      → Comes (real_source old new) (real_sink out_before out) (real_sink err_before err) → OverBoth words book state status
  over_real old new out_before out err_before err fresh none no_line comes =
      let read = subst (λ (s : SourceState). Comes (real_source s new) (real_sink out_before out) (real_sink err_before err)) fresh comes in
      let printed = subst (λ (n : ℕ). Comes (real_source unread new) (real_sink n out) (real_sink err_before err)) none read in
      record {
        script = new;
        out = out;
        err = err;
        outcome = subst (λ (n : ℕ). Comes (real_source unread new) (real_sink 0 out) (real_sink n err)) no_line printed;
      }

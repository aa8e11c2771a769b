-- The top call over real files and streams, no call of which was made before.
use Rattle.std.proofs.Common.{◌≡◌, ℕ, List, [], subst}
use Rattle.carte_trim.specs.Around.{OverDisk, OverSink}
use Rattle.carte_trim.specs.Whole.{IsOutcome}
use Rattle.carte_trim.specs.declared.status.Status.{Status}
use Rattle.carte_trim_main.specs.Ends.{OverBoth}

abbrev pub real_sink : ℕ → ℕ → OverSink
real_sink before after = record { tells = ⊥; old = record { taken = []; handed = 0; faults = before }; new = record { taken = []; handed = 0; faults = after } }

module _ (words : List (List ℕ)) (state new : OverDisk) (status : Status) where
  abbrev Comes : OverSink → OverSink → Type 0
  Comes out err = IsOutcome 536870912 (record { words = words; state = state; new = new; out = out; err = err }) status

  pub over_real : (out_before out err_before err : ℕ) → out_before ≡ 0 → err_before ≡ 0 → Comes (real_sink out_before out) (real_sink err_before err) → OverBoth words state new status
  over_real out_before out err_before err none no_line comes =
      let printed = subst (λ (n : ℕ). Comes (real_sink n out) (real_sink err_before err)) none comes in
      record { out = out; err = err; outcome = subst (λ (n : ℕ). Comes (real_sink 0 out) (real_sink n err)) no_line printed }

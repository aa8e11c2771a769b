use Rattle.std.proofs.Common.{◌≡◌}
use Rattle.carte_record.specs.Folds.{applied}
use Rattle.carte_record.specs.Kept.{kept_view, nothing_kept}
use Rattle.carte_state.proofs.columns.put_together.Given as goal

abbrev pub invariant-loop-batch : goal.invariant-loop-batch
invariant-loop-batch l = kept_view l.kept ≡ applied nothing_kept l.yielded

use Rattle.std.proofs.Common.{◌∷◌, [], ap, sym, ◌∙◌}
use Rattle.carte_record.specs.Folds.{apply}
use Rattle.carte_record.specs.Kept.{nothing_kept}
use Rattle.carte_state.proofs.Runs.{applied-append}
use Rattle.carte_trim.proofs.trimmed.kept_of.Goals as goal

pub loop-batch-preserved : goal.loop-batch-preserved
loop-batch-preserved c =
    c.in_ok-absorb.ensures.ok ∙ ap (apply c.in-Some.batch) c.loop-batch.invariant ∙ sym (applied-append nothing_kept c.loop-batch.yielded (c.in-Some.batch ∷ []))

use Rattle.std.proofs.Common.{◌∙◌, ap, map-id, sym}
use Rattle.std.proofs.lemmas.Iterator.Adapters.{YieldsList-from_vec}
use Rattle.std.proofs.lemmas.Iterator.Consumers.{YieldsList-end}
use Rattle.carte_record.specs.Folds.{applied}
use Rattle.carte_record.specs.Kept.{kept_view, nothing_kept}
use Rattle.carte_state.proofs.Runs.{kept_further}
use Rattle.carte_state.proofs.columns.put_together.Goals as goal

pub loop-batch-preserved : goal.loop-batch-preserved
loop-batch-preserved c =
    let put = c.in_ok-put_in.ensures {u = tt} in
    kept_further nothing_kept c.loop-batch.yielded c.in-Some.batch (kept_view c.loop-batch.kept) (kept_view c.put_in.new.kept) c.loop-batch.invariant put

-- all batches were put in: a search finds it too, but breaks off where they are others than those that were passed
pub returns : goal.returns
returns c =
    let all = c.args.batches.items in
    let done = c.loop-batch.yielded in
    let gives = c.into_iter-batch-iterator.ensures.into_iter_gives in
    let road = YieldsList-from_vec {s = c.into_iter-batch-iterator.result} all gives.0 (gives.1 ∙ c.args.batches.ok.0) in
    let end = YieldsList-end road done c.loop-batch.batch-iterator c.loop-batch.yielded_by c.next.result c.next.new.self c.in-None.is c.next.ensures.steps in
    c.loop-batch.invariant ∙ ap (applied nothing_kept) (sym (sym end.0 ∙ map-id done))

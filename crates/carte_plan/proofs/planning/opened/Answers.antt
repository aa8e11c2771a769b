use Rattle.carte_plan.proofs.Leading.{opened_is}
use Rattle.carte_plan.proofs.planning.opened.Goals as goal

pub returns : goal.returns
returns c = opened_is _ _ _ _ _ c.new-batch.ensures (c.in_ok-gone.ensures {u = tt}) (c.in_ok-stale.ensures {u = tt})

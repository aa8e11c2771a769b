use Rattle.std.proofs.Common.{refl}
use Rattle.carte_rebuild.proofs.Finishing.{finishes_right}
use Rattle.carte_rebuild.proofs.made.finish.Goals as goal

pub returns-clause-right : goal.returns-clause-right
returns-clause-right g c = finishes_right _ _ _ c.args.made _ _ refl c.gathers_beneath-gathers.ensures (c.in_ok-tasks.ensures {u = tt}) (c.in_ok-beneath.ensures {u = tt})

use Rattle.carte_engine.proofs.Keeping.{plan_keeps}
use Rattle.carte_engine.proofs.laws.plan_keeps.Goals as goal

pub returns : goal.returns
returns c = plan_keeps

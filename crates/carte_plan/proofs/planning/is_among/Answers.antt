use Rattle.carte_plan.proofs.Lists.{test_is}
use Rattle.carte_plan.proofs.planning.is_among.Goals as goal

pub returns : goal.returns
returns c = test_is c.holds.result c.args.names.now c.args.name.now c.holds.ensures

use Rattle.carte_mark.proofs.Passing.{pass_first}
use Rattle.carte_mark.proofs.pass.pass.Goals as goal

pub loop-at-init : goal.loop-at-init
loop-at-init c = pass_first c.args.kept.now c.args.names.now

pub loop-at-preserved : goal.loop-at-preserved
loop-at-preserved c = (c.in_ok-last.ensures {u = tt}) c.args.names.now c.loop-at.invariant

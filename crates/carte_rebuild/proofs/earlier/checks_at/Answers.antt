use Rattle.std.proofs.Common.{◌≡◌, length, option_copied, arith}
use Rattle.carte_rebuild.proofs.Collecting.{at_more, at_last}
use Rattle.carte_rebuild.proofs.earlier.checks_at.Goals as goal

pub loop-at-preserved : goal.loop-at-preserved
loop-at-preserved c = at_more c.args.task.now (option_copied c.args.wanted) c.args.values.now c.args.key.now c.args.traces.now c.args.places.now c.loop-at.at-index _ c.loop-at.checks c.add.new.checks _ c.loop-at-test.true c.get.ensures c.loop-at.invariant (c.in_ok-add.ensures {u = tt})

pub returns : goal.returns
returns c =
    let end : c.loop-at.at-index ≡ length c.args.places.now = omega (arith, c.loop-at.auto.at-index-end, c.loop-at-test.false) in
    at_last c.args.task.now (option_copied c.args.wanted) c.args.values.now c.args.key.now c.args.traces.now c.args.places.now c.loop-at.at-index c.loop-at.checks end c.requires c.loop-at.invariant

use Rattle.carte_tree.proofs.Once.{seen_more}
use Rattle.carte_tree.proofs.mentioned.see_cells.Goals as goal

pub loop-name-preserved : goal.loop-name-preserved
loop-name-preserved c =
    seen_more c.as_slice-name-items.result.now c.loop-name.name-index c.name-item.result c.args.seen.now c.loop-name.seen c.give.new.self c.loop-name-test.true c.name-item.is c.loop-name.invariant c.in_ok-give.ensures.names

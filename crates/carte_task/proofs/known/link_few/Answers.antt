use Rattle.carte_task.proofs.Links.{links_more}
use Rattle.carte_task.proofs.known.link_few.Goals as goal

pub loop-name-preserved : goal.loop-name-preserved
loop-name-preserved c =
    links_more c.deref-name-items.result.now c.loop-name.name-index c.loop-name-item.result c.args.links.now c.loop-name.links c.link.new.links c.loop-name-test.true c.loop-name-item.is c.loop-name.invariant (c.in_ok-link.ensures {u = tt})

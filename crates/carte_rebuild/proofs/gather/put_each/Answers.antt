use Rattle.carte_rebuild.proofs.Gathered.{put_more}
use Rattle.carte_rebuild.proofs.gather.put_each.Goals as goal

pub loop-link-preserved : goal.loop-link-preserved
loop-link-preserved c =
    put_more c.as_slice-link-items.result.now c.loop-link.link-index c.link-item.result c.args.gathered.now.entries c.loop-link.gathered.entries c.put.new.gathered.entries c.loop-link-test.true c.link-item.is c.loop-link.invariant (c.in_ok-put.ensures {u = tt})

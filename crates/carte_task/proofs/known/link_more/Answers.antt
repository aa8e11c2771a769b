use Rattle.std.proofs.Common.{sym}
use Rattle.carte_task.proofs.Links.{links_further}
use Rattle.carte_task.proofs.known.link_more.Goals as goal

pub loop-at-preserved : goal.loop-at-preserved
loop-at-preserved c =
    links_further c.args.more.now.entries c.loop-at.at c.in-Some.name.now c.in-Some.value.now c.args.links.now c.loop-at.links c.link.new.links (sym c.in-Some.ensures.entry) c.loop-at.invariant (c.in_ok-link.ensures {u = tt})

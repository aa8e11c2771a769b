use Rattle.std.proofs.Common.{ap, sym}
use Rattle.carte_task.proofs.Keeping.{linked}
use Rattle.carte_task.proofs.known.Known.links.Goals as goal

pub returns : goal.returns
returns c = linked _ _ _ c.in_ok-links.links c.link_few.new.links c.link_more.new.links (ap (λ k. k.entries) (sym c.self.view_is)) (c.in_ok-links.ensures {u = tt}) (c.in_ok-link_few.ensures {u = tt}) (c.in_ok-link_more.ensures {u = tt})

use Rattle.carte_compact.proofs.Ordered.{all_listed}
use Rattle.carte_compact.proofs.names.in_order.Goals as goal

pub returns : goal.returns
returns c = all_listed c.args.names.items c.sort_unstable.new.self.items c.dedup.new.self.items c.sort_unstable.ensures.permutation c.sort_unstable.ensures.sorted c.dedup.ensures.filtered

use Rattle.carte_search.proofs.Loops.{one_reversed}
use Rattle.carte_search.proofs.search.reversed.Goals as goal

pub turns-preserved : goal.turns-preserved
turns-preserved c = one_reversed c.turns.path c.push.new.self c.turns.names.items c.pop.new.self.items c.in-Some.name _ (c.in_ok-push.ensures) c.in-Some.ensures.items c.turns.invariant

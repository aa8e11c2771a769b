use Rattle.carte_tree.proofs.StaticRuns.{static_ends}
use Rattle.carte_tree.proofs.laws.static_ends.Goals as goal

pub returns : goal.returns
returns c = static_ends

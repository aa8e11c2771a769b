use Rattle.carte_tree.proofs.StaticRuns.{static_looks}
use Rattle.carte_tree.proofs.laws.static_looks.Goals as goal

pub returns : goal.returns
returns c = static_looks

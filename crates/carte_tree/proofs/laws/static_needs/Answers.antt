use Rattle.carte_tree.proofs.StaticRuns.{static_fetched}
use Rattle.carte_tree.proofs.laws.static_needs.Goals as goal

pub returns : goal.returns
returns c = static_fetched

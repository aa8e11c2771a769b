use Rattle.carte_tree.proofs.Turns.{static_in_turn}
use Rattle.carte_tree.proofs.laws.static_asks.Goals as goal

pub returns : goal.returns
returns c = static_in_turn

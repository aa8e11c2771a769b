use Rattle.carte_engine.proofs.Enduring.{history_right}
use Rattle.carte_engine.proofs.laws.history_is_right.Goals as goal

pub returns : goal.returns
returns c = history_right

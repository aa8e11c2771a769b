use Rattle.carte_state.proofs.History as laws
use Rattle.carte_state.proofs.laws.history_keeps.Goals as goal

pub returns : goal.returns
returns c = laws.history_keeps

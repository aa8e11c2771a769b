use Rattle.carte_state.proofs.Olds as laws
use Rattle.carte_state.proofs.laws.old_is_one.Goals as goal

pub returns : goal.returns
returns c = laws.old_is_one

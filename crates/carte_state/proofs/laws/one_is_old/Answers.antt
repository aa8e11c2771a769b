use Rattle.carte_state.proofs.Olds as laws
use Rattle.carte_state.proofs.laws.one_is_old.Goals as goal

pub returns : goal.returns
returns c = laws.one_is_old

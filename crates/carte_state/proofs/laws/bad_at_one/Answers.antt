use Rattle.carte_state.proofs.Folds as laws
use Rattle.carte_state.proofs.laws.bad_at_one.Goals as goal

pub returns : goal.returns
returns c = laws.bad_at_one

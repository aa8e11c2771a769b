use Rattle.carte_state.proofs.Folds as laws
use Rattle.carte_state.proofs.laws.keeps_or_bad.Goals as goal

pub returns : goal.returns
returns c = laws.keeps_or_bad

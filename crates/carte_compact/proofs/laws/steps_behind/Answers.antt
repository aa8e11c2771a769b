use Rattle.carte_compact.proofs.Behind as behind
use Rattle.carte_compact.proofs.laws.steps_behind.Goals as goal

pub returns : goal.returns
returns c = behind.steps_behind

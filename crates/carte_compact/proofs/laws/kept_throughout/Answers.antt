use Rattle.carte_compact.proofs.Behind as behind
use Rattle.carte_compact.proofs.laws.kept_throughout.Goals as goal

pub returns : goal.returns
returns c = behind.kept_throughout

use Rattle.carte_compact.proofs.Alike as alike
use Rattle.carte_compact.proofs.laws.one_live.Goals as goal

pub returns : goal.returns
returns c = alike.one_live

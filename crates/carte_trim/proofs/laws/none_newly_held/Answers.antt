use Rattle.carte_trim.proofs.Trims as trims
use Rattle.carte_trim.proofs.laws.none_newly_held.Goals as goal

pub returns : goal.returns
returns c = trims.none_newly

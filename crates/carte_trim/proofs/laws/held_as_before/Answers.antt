use Rattle.carte_trim.proofs.Trims as trims
use Rattle.carte_trim.proofs.laws.held_as_before.Goals as goal

pub returns : goal.returns
returns c = trims.as_before

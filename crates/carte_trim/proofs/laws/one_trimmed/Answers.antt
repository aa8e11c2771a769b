use Rattle.carte_trim.proofs.Trims as trims
use Rattle.carte_trim.proofs.laws.one_trimmed.Goals as goal

pub returns : goal.returns
returns c = trims.one

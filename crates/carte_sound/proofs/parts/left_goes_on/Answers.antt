use Rattle.carte_sound.proofs.Stations.{left_goes_on}
use Rattle.carte_sound.proofs.parts.left_goes_on.Goals as goal

pub returns : goal.returns
returns c = left_goes_on

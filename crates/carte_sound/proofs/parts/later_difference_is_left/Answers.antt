use Rattle.carte_sound.proofs.Stations.{later_applied}
use Rattle.carte_sound.proofs.parts.later_difference_is_left.Goals as goal

pub returns : goal.returns
returns c = later_applied

use Rattle.carte_sound.proofs.Applied.{difference_applied}
use Rattle.carte_sound.proofs.laws.difference_is_left.Goals as goal

pub returns : goal.returns
returns c = difference_applied

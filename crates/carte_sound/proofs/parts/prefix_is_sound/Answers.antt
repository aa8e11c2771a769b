use Rattle.carte_sound.proofs.PartsSound.{prefix_base}
use Rattle.carte_sound.proofs.parts.prefix_is_sound.Goals as goal

pub returns : goal.returns
returns c = prefix_base

use Rattle.carte_sound_one.proofs.Up.{up_sound}
use Rattle.carte_sound_one.proofs.laws.up_is_sound.Goals as goal

pub returns : goal.returns
returns c = up_sound

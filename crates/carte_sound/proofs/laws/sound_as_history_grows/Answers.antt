use Rattle.carte_sound.proofs.Begins.{behind_sound}
use Rattle.carte_sound.proofs.laws.sound_as_history_grows.Goals as goal

pub returns : goal.returns
returns c = λ K H J sound. behind_sound K H J sound

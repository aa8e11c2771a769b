use Rattle.carte_trim.proofs.Trims as trims
use Rattle.carte_trim.proofs.laws.trimmed_is_sound.Goals as goal

pub returns : goal.returns
returns c = trims.sound

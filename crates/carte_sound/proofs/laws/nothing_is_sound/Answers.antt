use Rattle.carte_sound.proofs.Histories.{nothing_sound}
use Rattle.carte_sound.proofs.laws.nothing_is_sound.Goals as goal

pub returns : goal.returns
returns c = λ H. nothing_sound H

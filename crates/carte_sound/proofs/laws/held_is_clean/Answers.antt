use Rattle.carte_sound.proofs.Deep.{held_result}
use Rattle.carte_sound.proofs.laws.held_is_clean.Goals as goal

pub returns : goal.returns
returns c = λ h K b H k base held. held_result K b H base h k held

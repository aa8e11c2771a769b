use Rattle.carte_sound.proofs.Begins.{begun_base}
use Rattle.carte_sound.proofs.laws.marking_is_sound.Goals as goal

pub returns : goal.returns
returns c = begun_base

use Rattle.carte_sound.proofs.LeftSound.{left_base}
use Rattle.carte_sound.proofs.laws.left_is_sound.Goals as goal

pub returns : goal.returns
returns c = λ h b H M finished chain begun once are. left_base h b H M begun finished chain once are

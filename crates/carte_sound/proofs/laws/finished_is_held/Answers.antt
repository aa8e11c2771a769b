use Rattle.carte_sound.proofs.Next.{again_held}
use Rattle.carte_sound.proofs.laws.finished_is_held.Goals as goal

pub returns : goal.returns
returns c = λ h b H M finished chain x begun once are begins k among. again_held b H M begun h finished chain once are x begins k among

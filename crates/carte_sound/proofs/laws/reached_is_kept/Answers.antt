use Rattle.carte_sound.proofs.Reached.{reached_kept}
use Rattle.carte_sound.proofs.laws.reached_is_kept.Goals as goal

pub returns : goal.returns
returns c = λ K b H targets base fresh k reached is_rule. reached_kept K b H targets base fresh k reached is_rule

use Rattle.carte_sound.proofs.ByRole.{by_role}
use Rattle.carte_sound.proofs.laws.dropping_is_by_role.Goals as goal

pub returns : goal.returns
returns c = λ K b H x sound begins. by_role K H b sound x begins

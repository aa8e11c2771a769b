use Rattle.carte_construct.proofs.Holds.{set_back}
use Rattle.carte_construct.proofs.laws.set_back_is_held.Goals as goal

pub returns : goal.returns
returns g = set_back

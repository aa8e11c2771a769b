use Rattle.carte_construct.proofs.Holds.{minimal}
use Rattle.carte_construct.proofs.laws.unchanged_is_held.Goals as goal

pub returns : goal.returns
returns g = minimal

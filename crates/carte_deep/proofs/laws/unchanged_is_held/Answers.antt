use Rattle.carte_deep.proofs.Holds.{minimal}
use Rattle.carte_deep.proofs.laws.unchanged_is_held.Goals as goal

pub returns : goal.returns
returns g = minimal

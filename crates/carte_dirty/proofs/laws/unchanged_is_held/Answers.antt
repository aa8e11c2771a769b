use Rattle.carte_dirty.proofs.Holds.{unchanged}
use Rattle.carte_dirty.proofs.laws.unchanged_is_held.Goals as goal

pub returns : goal.returns
returns g = unchanged

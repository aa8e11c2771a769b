use Rattle.carte_dirty.proofs.Holds.{changed_not_held}
use Rattle.carte_dirty.proofs.laws.changed_is_not_held.Goals as goal

pub returns : goal.returns
returns g = changed_not_held

use Rattle.carte_verify.proofs.Holds.{minimal}
use Rattle.carte_verify.proofs.laws.unchanged_is_held.Goals as goal

pub returns : goal.returns
returns c = minimal

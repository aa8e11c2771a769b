use Rattle.carte_construct.proofs.Holds.{traces_hold}
use Rattle.carte_construct.proofs.laws.traces_alone_hold.Goals as goal

pub returns : goal.returns
returns g = traces_hold

use Rattle.carte_construct.proofs.Holds.{one_holds}
use Rattle.carte_construct.proofs.laws.one_trace_holds.Goals as goal

pub returns : goal.returns
returns g = λ K b H k s t base one other. one_holds K b H base k s t one other

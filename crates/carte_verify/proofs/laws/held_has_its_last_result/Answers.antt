use Rattle.carte_verify.proofs.Holds.{kept_now}
use Rattle.carte_verify.proofs.laws.held_has_its_last_result.Goals as goal

pub returns : goal.returns
returns c = λ K b H k base held. kept_now K b H base k held

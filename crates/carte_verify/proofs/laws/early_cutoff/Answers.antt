use Rattle.carte_verify.proofs.Holds.{cutoff_next}
use Rattle.carte_verify.proofs.laws.early_cutoff.Goals as goal

pub returns : goal.returns
returns g = λ K b c H k x base held task same begins. cutoff_next K b H base k c x held task same begins

use Rattle.carte_deep.proofs.Holds.{cutoff_next}
use Rattle.carte_deep.proofs.laws.stays_held.Goals as goal

pub returns : goal.returns
returns g = λ K b c H k x base held is_rule rules same begins. cutoff_next K b H base k c x held is_rule rules same begins

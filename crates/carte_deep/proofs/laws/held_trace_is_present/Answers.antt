use Rattle.carte_sound.proofs.Deep.{deep_held}
use Rattle.carte_deep.proofs.laws.held_trace_is_present.Goals as goal

pub returns : goal.returns
returns g = λ K b H k t base held. (deep_held K b H base k t held).1

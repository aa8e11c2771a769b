use Rattle.carte_sound.proofs.Held.{verifying_held}
use Rattle.carte_verify.proofs.laws.held_links_are_present.Goals as goal

pub returns : goal.returns
returns c = λ K b H k t base held. (verifying_held K b H base k t held).1

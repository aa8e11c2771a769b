use Rattle.carte_sound.proofs.Cut.{cut_carries}
use Rattle.carte_sound.proofs.parts.rest_carries.Goals as goal

pub returns : goal.returns
returns c = cut_carries

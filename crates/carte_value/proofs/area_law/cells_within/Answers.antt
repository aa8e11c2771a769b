use Rattle.carte_value.proofs.Sides as sides
use Rattle.carte_value.proofs.area_law.cells_within.Goals as goal

pub returns : goal.returns
returns c = sides.cells_within

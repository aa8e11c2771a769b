use Rattle.carte_value.proofs.Sides as sides
use Rattle.carte_value.proofs.area_law.each_cell_once.Goals as goal

pub returns : goal.returns
returns c = sides.each_cell_once

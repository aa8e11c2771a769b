use Rattle.carte_name.proofs.Places as places
use Rattle.carte_name.proofs.place_law.cells_by_place.Goals as goal

pub returns : goal.returns
returns c = places.cells_by_place

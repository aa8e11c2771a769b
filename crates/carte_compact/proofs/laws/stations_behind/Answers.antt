use Rattle.carte_compact.proofs.Behind as behind
use Rattle.carte_compact.proofs.laws.stations_behind.Goals as goal

pub returns : goal.returns
returns c = behind.stations_behind

use Rattle.carte_value.proofs.Stops as stops
use Rattle.carte_value.proofs.asks_law.grown.Goals as goal

pub returns : goal.returns
returns g c = stops.grown _

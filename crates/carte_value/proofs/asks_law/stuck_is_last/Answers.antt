use Rattle.carte_value.proofs.Stops as stops
use Rattle.carte_value.proofs.asks_law.stuck_is_last.Goals as goal

pub returns : goal.returns
returns g c = stops.stuck_is_last _

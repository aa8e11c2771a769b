use Rattle.std.proofs.Common.{ap}
use Rattle.carte_state.specs.Versions.{Fours}
use Rattle.carte_state.proofs.made.now_with.Goals as goal

pub returns-in-Ok : goal.returns-in-Ok
returns-in-Ok c = (tt, ap Fours c.in-Ok.ensures)

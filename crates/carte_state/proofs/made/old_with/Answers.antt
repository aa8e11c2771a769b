use Rattle.std.proofs.Common.{ap}
use Rattle.carte_state.specs.Versions.{Ones}
use Rattle.carte_state.proofs.made.old_with.Goals as goal

pub returns-in-Ok : goal.returns-in-Ok
returns-in-Ok c = (tt, ap Ones c.in-Ok.ensures)

use Rattle.std.proofs.Common.{ap}
use Rattle.carte_state.specs.Versions.{Threes}
use Rattle.carte_state.proofs.made.before_with.Goals as goal

pub returns-in-Ok : goal.returns-in-Ok
returns-in-Ok c = (tt, ap Threes c.in-Ok.ensures)

use Rattle.std.proofs.Common.{subst}
use Rattle.carte_state.specs.Parts.{ReadsPart}
use Rattle.carte_state.proofs.load.take_part.Goals as goal

pub returns-in-Ok : goal.returns-in-Ok
returns-in-Ok c p reads = c.take_all.ensures p.bodies.items (subst (ReadsPart p) c.in-Ok.is reads)

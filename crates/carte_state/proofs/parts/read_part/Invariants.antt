use Rattle.carte_state.specs.Parts.{AreFound}
use Rattle.carte_state.proofs.parts.read_part.Given as goal

abbrev pub invariant-loop-body : goal.invariant-loop-body
invariant-loop-body g l = AreFound l.yielded l.founds.items

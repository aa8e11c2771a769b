use Rattle.std.proofs.Common.{List}
use Rattle.carte_state.specs.Folding.{IsFolded}
use Rattle.carte_state.specs.Parts.{bodies_in, made_view}
use Rattle.carte_state.specs.declared.parts.Part.{Part}
use Rattle.carte_state.specs.Versions.{Fresh}
use Rattle.carte_state.proofs.Reading.{AreParts}
use Rattle.carte_state.proofs.load.put_together.Given as goal

abbrev pub invariant-loop-part : goal.invariant-loop-part
invariant-loop-part l = (ps : List Part) → AreParts ps l.yielded → IsFolded Fresh (bodies_in ps) (made_view l.made)

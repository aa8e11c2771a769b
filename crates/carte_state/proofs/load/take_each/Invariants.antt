use Rattle.carte_state.specs.Folding.{IsFolded}
use Rattle.carte_state.specs.Parts.{made_view}
use Rattle.carte_state.specs.Versions.{Fresh}
use Rattle.carte_state.proofs.load.take_each.Given as goal

abbrev pub invariant-loop-body : goal.invariant-loop-body
invariant-loop-body l = IsFolded Fresh l.yielded (made_view l.made)

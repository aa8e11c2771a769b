use Rattle.carte_mark.specs.Passes.{Passes}
use Rattle.carte_mark.proofs.pass.pass.Given as goal

abbrev pub invariant-loop-at : goal.invariant-loop-at
invariant-loop-at l = Passes l.kept l.at l.last l.initial.names l.names

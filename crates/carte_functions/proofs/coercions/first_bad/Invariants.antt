use Rattle.std.proofs.Common.{◌≡◌, drop}
use Rattle.carte_tree.specs.Coercions.{first_bad}
use Rattle.carte_functions.proofs.coercions.first_bad.Given as goal

abbrev pub invariant-loop-value : goal.invariant-loop-value
invariant-loop-value l = first_bad (drop l.value-index l.values) ≡ first_bad l.values

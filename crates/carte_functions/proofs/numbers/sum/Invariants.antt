use Rattle.carte_functions.proofs.Sums.{IsSumTo}
use Rattle.carte_functions.proofs.numbers.sum.Given as goal

abbrev pub invariant-loop-value : goal.invariant-loop-value
invariant-loop-value l = IsSumTo l.values l.value-index l.sum

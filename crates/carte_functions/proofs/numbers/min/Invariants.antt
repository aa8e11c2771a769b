use Rattle.std.proofs.Common.{◌≡◌, drop}
use Rattle.carte_tree.specs.Numbers.{numbers_in, least}
use Rattle.carte_tree.specs.Best.{least_on}
use Rattle.carte_functions.proofs.numbers.min.Given as goal

abbrev pub invariant-loop-value : goal.invariant-loop-value
invariant-loop-value l = least_on l.best (numbers_in (drop l.value-index l.values)) ≡ least (numbers_in l.values)

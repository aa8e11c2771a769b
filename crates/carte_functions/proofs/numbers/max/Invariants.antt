use Rattle.std.proofs.Common.{◌≡◌, drop}
use Rattle.carte_tree.specs.Numbers.{numbers_in, greatest}
use Rattle.carte_tree.specs.Best.{greatest_on}
use Rattle.carte_functions.proofs.numbers.max.Given as goal

abbrev pub invariant-loop-value : goal.invariant-loop-value
invariant-loop-value l = greatest_on l.best (numbers_in (drop l.value-index l.values)) ≡ greatest (numbers_in l.values)

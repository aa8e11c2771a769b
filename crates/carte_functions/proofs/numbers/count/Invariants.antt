use Rattle.std.proofs.Common.{◌≡◌, ◌+◌, ◌≤◌, drop, length}
use Rattle.carte_tree.specs.Numbers.{numbers_in}
use Rattle.carte_functions.proofs.numbers.count.Given as goal

abbrev pub invariant-loop-value : goal.invariant-loop-value
invariant-loop-value l = (l.count ≤ l.value-index) × (l.count + length (numbers_in (drop l.value-index l.values)) ≡ length (numbers_in l.values))

use Rattle.std.proofs.Common.{◌≡◌, ◌||◌, drop}
use Rattle.std.specs.List.{list_any}
use Rattle.carte_tree.specs.Coercions.{as_bool, each_as, or_wrong, bool_value}
use Rattle.carte_functions.proofs.logic.or.Given as goal

abbrev pub invariant-loop-value : goal.invariant-loop-value
invariant-loop-value l = or_wrong (each_as as_bool (drop l.value-index l.values)) (λ bs. bool_value (l.any || list_any (λ b. b) bs)) ≡ or_wrong (each_as as_bool l.values) (λ bs. bool_value (list_any (λ b. b) bs))

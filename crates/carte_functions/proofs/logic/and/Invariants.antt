use Rattle.std.proofs.Common.{◌≡◌, ◌&&◌, drop}
use Rattle.std.specs.List.{list_all}
use Rattle.carte_tree.specs.Coercions.{as_bool, each_as, or_wrong, bool_value}
use Rattle.carte_functions.proofs.logic.and.Given as goal

abbrev pub invariant-loop-value : goal.invariant-loop-value
invariant-loop-value l = or_wrong (each_as as_bool (drop l.value-index l.values)) (λ bs. bool_value (l.all && list_all (λ b. b) bs)) ≡ or_wrong (each_as as_bool l.values) (λ bs. bool_value (list_all (λ b. b) bs))

use Rattle.std.proofs.Common.{◌≡◌, ◌≤◌, nat_cmp, Less}
use Rattle.std.specs.List.{AllAdjacentBelow}
use Rattle.std.specs.Cmp.Lexicographic.{slice_cmp}
use Rattle.carte_rules.proofs.plain.are_ascending.Given as goal

abbrev pub invariant-loop-at : goal.invariant-loop-at
invariant-loop-at l = (1 ≤ l.at) × AllAdjacentBelow (λ a b. slice_cmp nat_cmp a.key.now b.key.now ≡ Less) l.entries l.at

use Rattle.std.proofs.Common.{◌≡◌, ◌≤◌, Less}
use Rattle.std.specs.List.{AllAdjacentBelow}
use Rattle.carte_name.specs.Names.{name_cmp}
use Rattle.carte_book.proofs.order.are_ascending.Given as goal

abbrev pub invariant-loop-at : goal.invariant-loop-at
invariant-loop-at l = (1 ≤ l.at) × AllAdjacentBelow (λ x y. name_cmp x.name.now y.name.now ≡ Less) l.rules l.at

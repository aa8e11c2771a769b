use Rattle.std.proofs.Common.{◌≡◌, ◌-◌, ◌++◌, map}
use Rattle.std.specs.List.{range_with_len}
use Rattle.carte_name.specs.Places.{cell_at}
use Rattle.carte_value.proofs.area.Area.push_row.Given as goal

abbrev pub invariant-loop-column : goal.invariant-loop-column
invariant-loop-column l = l.names ≡ l.initial.names ++ map (λ c. cell_at c l.row) (range_with_len l.self.left (l.column - l.self.left))

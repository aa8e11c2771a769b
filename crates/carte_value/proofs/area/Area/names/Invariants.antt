use Rattle.std.proofs.Common.{◌≡◌, ◌-◌}
use Rattle.std.specs.List.{flat_map, range_with_len}
use Rattle.carte_value.specs.Areas.{row_cells}
use Rattle.carte_value.proofs.area.Area.names.Given as goal

abbrev pub invariant-loop-row : goal.invariant-loop-row
invariant-loop-row l = l.names ≡ flat_map (row_cells l.self) (range_with_len l.self.top (l.row - l.self.top))

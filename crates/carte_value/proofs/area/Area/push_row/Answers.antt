use Rattle.std.proofs.Common.{arith}
use Rattle.carte_value.proofs.Rectangles.{row_more}
use Rattle.carte_value.proofs.area.Area.push_row.Goals as goal

pub loop-column-preserved : goal.loop-column-preserved
loop-column-preserved c =
    row_more c.args.self.now c.args.names.now c.push.new.self c.loop-column.names _ c.loop-column.column c.args.row c.in_ok-cell_at.field-0 (omega arith) c.loop-column.invariant c.in_ok-cell_at.ensures c.in_ok-push.ensures

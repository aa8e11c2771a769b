use Rattle.std.proofs.Common.{arith}
use Rattle.carte_value.proofs.Rectangles.{rows_more}
use Rattle.carte_value.proofs.area.Area.names.Goals as goal

pub loop-row-preserved : goal.loop-row-preserved
loop-row-preserved c =
    rows_more c.args.self.now c.loop-row.names c.push_row.new.names c.loop-row.row (omega arith) c.loop-row.invariant c.in_ok-push_row.ensures

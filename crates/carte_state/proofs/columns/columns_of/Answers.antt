use Rattle.carte_state.proofs.Beside.{part_end}
use Rattle.carte_state.proofs.columns.columns_of.Goals as goal

pub loop-part-preserved : goal.loop-part-preserved
loop-part-preserved c = part_end c.loop-part.columns c.add_part.new.self c.loop-part.yielded c.in-Some.part c.loop-part.invariant (c.in_ok-add_part.ensures {u = tt})

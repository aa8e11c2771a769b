use Rattle.carte_state.proofs.Beside.{found_end, found_none}
use Rattle.carte_state.proofs.columns.Columns.add_all.Goals as goal

pub loop-found-init : goal.loop-found-init
loop-found-init c = found_none c.args.self.now

pub loop-found-preserved : goal.loop-found-preserved
loop-found-preserved c =
    found_end c.args.self.now c.loop-found.self c.add_any.new.self c.loop-found.yielded c.in-Some.found c.loop-found.invariant (c.in_ok-add_any.ensures {u = tt})

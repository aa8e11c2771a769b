use Rattle.std.proofs.Common.{◌+◌, ◌≤◌, length, take, arith, rules, sym, subst}
use Rattle.carte_history.proofs.Showing.{SoFar, shown_next, so_far_all, so_far_none}
use Rattle.carte_history.proofs.histories.history.Goals as goal

pub loop-run-init : goal.loop-run-init
loop-run-init g c = so_far_none 536870912 c.args.runs.now _ _ (search rules) c.in_ok-disk.ensures.begins

pub show-requires-clause-begun : goal.show-requires-clause-begun
show-requires-clause-begun g c = λ κs lives. c.loop-run.invariant.1

pub loop-run-preserved : goal.loop-run-preserved
loop-run-preserved g c =
    let one = c.in_ok-one.ensures in
    subst (λ xs. SoFar 536870912 (take (c.loop-run.run-index + 1) c.args.runs.now) xs c.show.new.disk) (sym c.in_ok-push.ensures.items)
    (shown_next 536870912 c.args.runs.now c.loop-run.run-index c.run-item.result c.loop-run.shown.items c.in_ok-one.one c.loop-run.disk c.show.new.disk
    c.loop-run-test.true c.run-item.is c.loop-run.invariant one.0 one.1 one.2)

pub returns : goal.returns
returns g c =
    let ended : length c.args.runs.now ≤ c.loop-run.run-index = omega (arith, c.loop-run-test.false) in
    so_far_all 536870912 c.args.runs.now c.loop-run.run-index c.loop-run.shown.items c.loop-run.disk ended c.loop-run.invariant

use Rattle.std.proofs.Common.{arith}
use Rattle.std.proofs.lemmas.Result.{err_from_is_err_and}
use Rattle.carte_book.specs.Book.{book_view}
use Rattle.carte_topo.specs.Walk.{seen_in}
use Rattle.carte_topo.proofs.Reaching.{has_goal}
use Rattle.carte_topo.proofs.Ordered.{stops_so, ready_more_targets, at_end}
use Rattle.carte_topo.proofs.plan.walk.Goals as goal

pub returns-in_err-reach : goal.returns-in_err-reach
returns-in_err-reach c =
    let some = has_goal c.args.targets.now c.loop-at.at (omega arith) in
    let p = err_from_is_err_and c.from_residual.result c.from_residual.ensures.1 in
    rw (p.1, p.2) (stops_so (book_view c.args.book.now) c.args.targets.now (seen_in c.loop-at.walk.stages) (seen_in c.reach.new.self.stages) c.loop-at.walk.path.items c.reach.new.self.path.items c.loop-at.walk.done c.reach.new.self.done c.loop-at.at some.0 c.in_err-reach.field-0.0 some.1 c.loop-at.invariant.0 c.loop-at.invariant.1 (c.in_err-reach.ensures some.0 some.1))

pub loop-at-preserved : goal.loop-at-preserved
loop-at-preserved c =
    let some = has_goal c.args.targets.now c.loop-at.at (omega arith) in
    let reached = c.in_ok-reach.ensures some.0 some.1 in
    (reached.between, ready_more_targets (book_view c.args.book.now) c.args.targets.now (seen_in c.reach.new.self.stages) c.reach.new.self.path.items c.loop-at.walk.done c.reach.new.self.done c.loop-at.at some.0 some.1 c.loop-at.invariant.1 reached)

pub returns : goal.returns
returns c = at_end (book_view c.args.book.now) c.args.targets.now (seen_in c.loop-at.walk.stages) c.loop-at.walk.path.items c.loop-at.walk.done c.loop-at.at (omega arith) c.loop-at.invariant.0 c.loop-at.invariant.1

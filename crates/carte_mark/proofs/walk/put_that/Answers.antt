use Rattle.carte_record.specs.Kept.{kept_view}
use Rattle.carte_mark.proofs.Walking.{puts_again, puts_that}
use Rattle.carte_mark.proofs.walk.put_that.Goals as goal

pub returns-then-holds : goal.returns-then-holds
returns-then-holds c = puts_again (kept_view c.args.kept.now) c.args.reached.now c.args.key.now (c.holds.ensures.0 c.if-holds.true)

pub returns : goal.returns
returns c =
    let ok = c.in_ok-put_key.ensures {u = tt} in
    puts_that (kept_view c.args.kept.now) c.args.reached.now c.put_key.new.names c.args.key.now c.in_ok-put_key.field-0 ok.front ok.puts ok.closed

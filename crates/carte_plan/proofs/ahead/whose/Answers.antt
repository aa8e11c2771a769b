use Rattle.std.proofs.Common.{length, refl}
use Rattle.std.proofs.lemmas.Option.{slice_get_read}
use Rattle.carte_plan.proofs.TasksAhead.{stands_more}
use Rattle.carte_plan.proofs.ahead.whose.Goals as goal

pub loop-at-preserved : goal.loop-at-preserved
loop-at-preserved c =
    let fs = c.args.finished.now in
    let at = c.loop-at.at in
    let key = c.index-finished-at.result in
    stands_more c.args.book.now fs c.loop-at.whose.items c.stand.new.whose.items at key c.loop-at.invariant (slice_get_read fs (length fs) at key refl c.loop-at-test.true c.index-finished-at.is) c.stand.ensures

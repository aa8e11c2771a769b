use Rattle.carte_io.proofs.CrashLemmas.{fill_more}
use Rattle.carte_io.proofs.crashes.fill_all.Goals as goal

pub loop-call-preserved : goal.loop-call-preserved
loop-call-preserved c =
    fill_more c.args.byte c.args.calls.now c.loop-call.call-index c.call-item.result _ _ _ c.loop-call-test.true c.call-item.is
    c.loop-call.invariant c.in_ok-fill_call.ensures

use Rattle.carte_io.proofs.CrashLemmas.{replay_more}
use Rattle.carte_io.proofs.crashes.replayed.Goals as goal

pub loop-call-preserved : goal.loop-call-preserved
loop-call-preserved c =
    replay_more c.args.first.now c.args.calls.now c.loop-call.call-index c.call-item.result _ _ c.loop-call-test.true c.call-item.is
    c.loop-call.invariant c.in_ok-replay.ensures

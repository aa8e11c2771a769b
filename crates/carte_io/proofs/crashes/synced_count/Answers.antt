use Rattle.std.proofs.Common.{arith, sym, ◌∙◌}
use Rattle.carte_io.proofs.CrashLemmas.{settled_at}
use Rattle.carte_io.proofs.crashes.synced_count.Goals as goal

pub returns-then-is_a_sync-clause-synced : goal.returns-then-is_a_sync-clause-synced
returns-then-is_a_sync-clause-synced c s settled =
    settled_at c.args.calls.now c.loop-count.count c.index-calls-count.result (omega arith) c.loop-count.invariant.within
    c.index-calls-count.is (sym c.is_a_sync.ensures ∙ c.if-is_a_sync.true) s

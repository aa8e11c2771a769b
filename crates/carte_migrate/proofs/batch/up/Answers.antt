use Rattle.std.proofs.Common.{◌∙◌}
use Rattle.carte_compact.proofs.Shut.{are_few}
use Rattle.carte_migrate.proofs.Migrated.{cleared_start, one_each, one_kept, one_unmarked}
use Rattle.carte_migrate.proofs.batch.up.Goals as goal

pub only-requires : goal.only-requires
only-requires c = are_few c.in_ok-kept.kept c.in_ok-batches.batches.items (c.in_ok-batches.ensures {u = tt}).live

pub returns-clause-start : goal.returns-clause-start
returns-clause-start c = rw c.cleared.ensures (cleared_start c.only.result)

pub returns-clause-kept : goal.returns-clause-kept
returns-clause-kept c =
    let made = c.in_ok-batches.ensures {u = tt} in
    rw c.cleared.ensures (one_kept _ c.in_ok-batches.batches.items c.only.result c.only.ensures (made.kept ∙ (c.in_ok-kept.ensures {u = tt}).view))

pub returns-clause-unmarked : goal.returns-clause-unmarked
returns-clause-unmarked c =
    let made = c.in_ok-batches.ensures {u = tt} in
    rw c.cleared.ensures (one_unmarked c.in_ok-batches.batches.items c.only.result c.only.ensures made.unmarked)

pub returns-clause-each : goal.returns-clause-each
returns-clause-each c =
    let made = c.in_ok-batches.ensures {u = tt} in
    rw c.cleared.ensures (one_each c.in_ok-kept.kept c.in_ok-batches.batches.items c.only.result made.live (c.in_ok-kept.ensures {u = tt}).once c.only.ensures)

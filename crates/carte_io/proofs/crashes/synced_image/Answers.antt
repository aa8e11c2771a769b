use Rattle.std.proofs.Common.{◌∙◌}
use Rattle.carte_io.proofs.CrashLemmas.{synced_is}
use Rattle.carte_io.proofs.crashes.synced_image.Goals as goal

pub returns : goal.returns
returns c =
    c.in_ok-image.ensures
    ∙ synced_is c.args.first.now c.args.calls.now c.synced_count-count.result c.synced_count-count.ensures.synced c.synced_count-count.ensures.writes

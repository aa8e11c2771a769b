use Rattle.std.proofs.lemmas.List.{take_rest}
use Rattle.carte_io.proofs.CrashLemmas.{filled_is}
use Rattle.carte_io.proofs.crashes.filled_image.Goals as goal

pub returns : goal.returns
returns c =
    filled_is c.args.first.now c.args.calls.now c.synced_count-count.result c.synced_count-count.ensures.synced c.synced_count-count.ensures.writes
    c.args.byte _ _ _ (take_rest c.args.calls.now c.synced_count-count.result) c.in_ok-image.ensures c.in_ok-fill_all.ensures

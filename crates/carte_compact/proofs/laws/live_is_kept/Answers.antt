use Rattle.carte_compact.proofs.Living.{is_kept}
use Rattle.carte_compact.proofs.laws.live_is_kept.Goals as goal

pub returns : goal.returns
returns c = is_kept

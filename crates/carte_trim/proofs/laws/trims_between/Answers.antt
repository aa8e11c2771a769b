use Rattle.carte_trim.proofs.HistoryTrims.{trims_between}
use Rattle.carte_trim.proofs.laws.trims_between.Goals as goal

pub returns : goal.returns
returns c = trims_between

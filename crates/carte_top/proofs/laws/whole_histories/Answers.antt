use Rattle.carte_top.proofs.HistoryRuns.{whole_histories}
use Rattle.carte_top.proofs.laws.whole_histories.Goals as goal

pub returns : goal.returns
returns c = whole_histories

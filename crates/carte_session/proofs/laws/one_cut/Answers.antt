use Rattle.carte_session.proofs.LineLemmas.{one_cut_is}
use Rattle.carte_session.proofs.laws.one_cut.Goals as goal

pub returns : goal.returns
returns c = one_cut_is

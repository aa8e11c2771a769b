use Rattle.carte_session.proofs.LineLemmas.{next_is}
use Rattle.carte_session.proofs.laws.next_of.Goals as goal

pub returns : goal.returns
returns c = next_is

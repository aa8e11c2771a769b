use Rattle.carte_session.proofs.LineLemmas.{lines_of-front}
use Rattle.carte_session.proofs.laws.lines_front.Goals as goal

pub returns : goal.returns
returns c = lines_of-front

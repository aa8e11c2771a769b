use Rattle.carte_session.proofs.LineLemmas.{lines_of-all}
use Rattle.carte_session.proofs.laws.all_lines.Goals as goal

pub returns : goal.returns
returns c = lines_of-all

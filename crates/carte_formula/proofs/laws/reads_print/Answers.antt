use Rattle.carte_formula.proofs.Round.{read_again}
use Rattle.carte_formula.proofs.laws.reads_print.Goals as goal

pub returns : goal.returns
returns c = read_again

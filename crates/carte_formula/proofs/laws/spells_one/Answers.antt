use Rattle.carte_formula.proofs.Round.{one_spelt}
use Rattle.carte_formula.proofs.laws.spells_one.Goals as goal

pub returns : goal.returns
returns c = one_spelt

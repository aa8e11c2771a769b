use Rattle.carte_restart.proofs.Totalling.{few_in_all}
use Rattle.carte_restart.proofs.laws.starts_in_vain_in_all.Goals as goal

pub returns : goal.returns
returns c = few_in_all

use Rattle.carte_top.proofs.Plain.{plain_is_due}
use Rattle.carte_top.proofs.laws.plain_run_is_due.Goals as goal

pub returns : goal.returns
returns c = plain_is_due

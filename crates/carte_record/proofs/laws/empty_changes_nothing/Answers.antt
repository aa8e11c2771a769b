use Rattle.carte_record.proofs.Empties.{empty_same}
use Rattle.carte_record.proofs.laws.empty_changes_nothing.Goals as goal

pub returns : goal.returns
returns c = empty_same

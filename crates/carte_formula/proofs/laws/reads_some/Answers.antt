use Rattle.carte_formula.proofs.Round.{reads_reading, told_reading}
use Rattle.carte_formula.proofs.laws.reads_some.Goals as goal

pub returns-clause-reads : goal.returns-clause-reads
returns-clause-reads c = reads_reading

pub returns-clause-told : goal.returns-clause-told
returns-clause-told c = told_reading

use Rattle.carte_state.specs.Parts.{made_view}
use Rattle.carte_state.specs.Versions.{Fresh}
use Rattle.carte_state.proofs.Reading.{reads_bad, reads_disk, reads_ok}
use Rattle.carte_state.proofs.load.folded.Goals as goal

pub returns-clause-folded : goal.returns-clause-folded
returns-clause-folded c = reads_ok made_view Fresh c.args.bodies c.take_each.result c.take_each.ensures

pub returns-clause-bad : goal.returns-clause-bad
returns-clause-bad c = reads_bad made_view Fresh c.args.bodies c.take_each.result c.take_each.ensures

pub returns-clause-disk : goal.returns-clause-disk
returns-clause-disk c = reads_disk made_view Fresh c.args.bodies c.take_each.result c.take_each.ensures

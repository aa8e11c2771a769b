use Rattle.carte_compact.proofs.Covered.{traces_long}
use Rattle.carte_compact.proofs.least.least_traces.Goals as goal

pub returns : goal.returns
returns g c = traces_long g.T.Compared.alike g.T.Measured.spelled c.least_length.result c.args.traces.now c.least_length.ensures

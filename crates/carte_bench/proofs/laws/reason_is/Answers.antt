use Rattle.carte_bench.proofs.Whys.{reason_is}
use Rattle.carte_bench.proofs.laws.reason_is.Goals as goal

pub returns : goal.returns
returns g c b s t r core waits = reason_is g.J.Job.fits b s core t r waits

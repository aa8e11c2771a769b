use Rattle.carte_bench.proofs.Cores.{comes_core}
use Rattle.carte_bench.proofs.laws.every_schedule.Goals as goal

pub returns : goal.returns
returns g c b s comes = comes_core g.J.Job.fits b g.J.Job.name g.J.Job.gives g.met.J.Job.fits_on s comes

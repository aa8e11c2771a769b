use Rattle.carte_bench.proofs.Cores.{done_stays}
use Rattle.carte_bench.proofs.laws.done_once.Goals as goal

pub returns : goal.returns
returns g c b s d k m steps done = done_stays g.J.Job.name g.J.Job.fits g.J.Job.gives b s d k m steps done

use Rattle.carte_bench.proofs.Turning.{turn_core, turn_names}
use Rattle.carte_bench.proofs.Keys.{turn_keyed}
use Rattle.carte_bench.proofs.laws.turn_keeps.Goals as goal

pub returns : goal.returns
returns g c = record {
  core = λ b old new r t k m turned core. turn_core g.J.Job.name g.J.Job.started g.J.Job.gives b old new r t k g.J.Job.fits g.met.J.Job.fits_on m turned core;
  names = λ b old new r t k m turned named. turn_names g.J.Job.name g.J.Job.started g.J.Job.gives b old new r t k m turned named;
  keys = λ b old new r t k m turned keyed. turn_keyed g.J.Job.keyed g.J.Job.name g.J.Job.started g.J.Job.gives g.met.J.Job.keyed_on b old new r t k m turned keyed;
}

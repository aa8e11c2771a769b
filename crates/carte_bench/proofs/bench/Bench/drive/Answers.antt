use Rattle.carte_bench.proofs.Ruled.{same_bench}
use Rattle.carte_bench.proofs.Turning.{gave_same}
use Rattle.carte_bench.proofs.bench.Bench.drive.Goals as goal

pub returns-clause-bench : goal.returns-clause-bench
returns-clause-bench g c = same_bench c.args.self.now _

pub returns-clause-gave : goal.returns-clause-gave
returns-clause-gave g c = gave_same g.J.Job.gives c.args.job.now c.drive-driven.new.self c.drive-driven.result c.hashed.result c.with-snapshot.ensures c.hashed.ensures c.drive-driven.ensures.gave

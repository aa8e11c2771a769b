use Rattle.carte_wave.proofs.Driving.{gave_same}
use Rattle.carte_wave.proofs.wave.drive.Goals as goal

pub returns-clause-gave : goal.returns-clause-gave
returns-clause-gave g c = gave_same g.J.Job.gives g.L.Look.sight _ _ c.args.job.now c.drive-driven.new.self c.drive-driven.result c.hashed.result c.with-snapshot.ensures c.hashed.ensures c.drive-driven.ensures.gave

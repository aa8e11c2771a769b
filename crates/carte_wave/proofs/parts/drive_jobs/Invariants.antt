use Rattle.std.proofs.Common.{length}
use Rattle.carte_wave.proofs.Drives.{GoesOn}
use Rattle.carte_wave.proofs.parts.drive_jobs.Given as goal

abbrev pub invariant-jobs : goal.invariant-jobs
invariant-jobs g l = GoesOn g.J.Job.name g.J.Job.started g.J.Job.gives (g.L.Look.sight l.look) l.fn.jobs.items l.jobs.items l.wave.driven.items l.wave.runs

abbrev pub decreases-jobs : goal.decreases-jobs
decreases-jobs g l = length l.jobs.items

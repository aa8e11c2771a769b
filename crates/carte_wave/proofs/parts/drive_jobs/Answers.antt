use Rattle.std.proofs.Common.{arith}
use Rattle.carte_wave.proofs.Drives.{goes_end, no_items}
use Rattle.carte_wave.proofs.parts.drive_jobs.Goals as goal

pub returns : goal.returns
returns g c =
    let none = no_items c.jobs.jobs.items (omega (arith, (c.in_default.ensures {u = tt}).cases.0, c.jobs.jobs.ok.0)) in
    goes_end g.J.Job.name g.J.Job.started g.J.Job.gives (g.L.Look.sight c.args.look.now) c.args.jobs.items c.jobs.jobs.items c.jobs.wave.driven.items c.jobs.wave.runs none c.jobs.invariant

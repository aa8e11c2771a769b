use Rattle.carte_wave.proofs.Drives.{parts_gave}
use Rattle.carte_wave.proofs.running.run_wave.Goals as goal

pub returns : goal.returns
returns g c =
    let told = c.in_ok-waves.ensures {u = tt} in
    parts_gave g.J.Job.name g.J.Job.started g.J.Job.gives (g.L.Look.sight c.args.look.now) c.in_ok-parts.parts.items c.in_ok-waves.waves.items c.args.jobs.items c.gather.result (c.in_ok-parts.ensures {u = tt}).jobs told.len told.each c.gather.ensures.passed c.gather.ensures.driven c.gather.ensures.runs

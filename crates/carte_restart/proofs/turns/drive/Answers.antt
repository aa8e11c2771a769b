use Rattle.carte_bench.specs.Held.{spots_of}
use Rattle.carte_restart.proofs.Renewing.{has_stopped, renews_put}
use Rattle.carte_restart.proofs.turns.drive.Goals as goal

pub renew-requires : goal.renew-requires
renew-requires g c =
    let turned = rw c.in-Err.is at (c.in_ok-came.ensures {u = tt}).turned in
    record { stopped = has_stopped turned.mid (spots_of c.turn_to.new.self) c.args.name.now (g.R.Job.Job.name c.in_ok-job-in-Err.job) turned.after c.in-Err.stuck turned.put (c.in_ok-job-in-Err.ensures {u = tt}).name }

pub returns-in_ok-job-in-Err-clause-turned : goal.returns-in_ok-job-in-Err-clause-turned
returns-in_ok-job-in-Err-clause-turned g c =
    let turned = rw c.in-Err.is at (c.in_ok-came.ensures {u = tt}).turned in
    let job = c.in_ok-job-in-Err.ensures {u = tt} in
    record {
      mid = spots_of c.turn_to.new.self;
      turned = turned;
      job = c.in_ok-job-in-Err.job;
      begun = job.begun;
      named = job.name;
      idle = job.idle;
      put = renews_put turned.mid (spots_of c.turn_to.new.self) (spots_of c.renew.new.self) c.args.name.now (g.R.Job.Job.name c.in_ok-job-in-Err.job) turned.after c.in_ok-job-in-Err.job c.in-Err.stuck turned.put job.name c.renew.ensures.renewed;
    }

use Rattle.carte_record.specs.Kept.{kept_view}
use Rattle.carte_trim.specs.Around.{over_part, over_sink}
use Rattle.carte_trim.proofs.Running.{runs_too}
use Rattle.carte_trim.proofs.run.run_over.Goals as goal

pub returns-in-Ok : goal.returns-in-Ok
returns-in-Ok g c =
    runs_too 536870912 c.args.count (kept_view c.args.kept.now) c.args.of_bytes (over_part g.N.Disk.tells g.N.Disk.story g.N.Disk.faults c.len.new.self c.run_new.new.new)
    (g.N.Disk.story c.args.new.now) (g.N.Disk.faults c.args.new.now) (Unit {0}) c.in-Ok.ensures.same c.in-Ok.ensures.cause.passed
    (over_sink g.O.Sink.tells g.O.Sink.state c.args.out.now c.run_new.new.out) c.run_new.result c.run_new.ensures

use Rattle.carte_record.specs.Kept.{kept_view}
use Rattle.carte_trim.specs.Around.{over_part, over_sink}
use Rattle.carte_trim.proofs.Running.{runs_made}
use Rattle.carte_trim.proofs.run.run_new.Goals as goal

pub returns-in-Ok-make : goal.returns-in-Ok-make
returns-in-Ok-make g c =
    runs_made 536870912 c.args.count (kept_view c.args.kept.now) c.args.of_bytes (over_part g.N.Disk.tells g.N.Disk.story g.N.Disk.faults c.args.new.now c.make.new.new)
    (over_sink g.O.Sink.tells g.O.Sink.state c.args.out.now c.answer.new.out) (kept_view c.in-Ok.left.kept) c.in-Ok.ensures.kept c.requires c.in-Ok-make.bytes
    c.in-Ok.left.counts.after c.in-Ok.left.counts.before c.in-Ok-make.ensures c.in-Ok.ensures.after c.in-Ok.ensures.before c.answer.result c.answer.ensures

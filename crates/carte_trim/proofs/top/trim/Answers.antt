use Rattle.carte_trim.specs.Around.{over_disk, over_sink}
use Rattle.carte_trim.proofs.Due.{completes, reported}
use Rattle.carte_trim.proofs.top.trim.Goals as goal

pub returns : goal.returns
returns g c =
    let words = c.args.words.now in
    let s = over_disk g.S.Disk.tells g.S.Disk.story g.S.Disk.faults c.args.state.now c.run-status.new.state in
    let d = over_disk g.N.Disk.tells g.N.Disk.story g.N.Disk.faults c.args.new.now c.run-status.new.new in
    let k = over_sink g.O.Sink.tells g.O.Sink.state c.args.out.now c.run-status.new.out in
    let run = reported 536870912 words s d k c.run-status.result c.report.result c.report.ensures.reports c.run-status.ensures in
    record { run = run; ended = c.report.ensures.ended; complete = λ due is. completes 536870912 words s d k c.report.result due run.ran is }

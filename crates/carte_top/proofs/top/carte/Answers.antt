use Rattle.carte_top.specs.Around.{over_source, over_disk, over_sink}
use Rattle.carte_top.proofs.Outcomes.{outcome}
use Rattle.carte_top.proofs.top.carte.Goals as goal

pub returns : goal.returns
returns g c = outcome 536870912 (record {
  words = c.args.words.now;
  book = over_source g.B.Source.tells g.B.Source.state c.args.book.now c.run-status.new.book;
  script = over_source g.S.Source.tells g.S.Source.state c.args.script.now c.run-status.new.script;
  state = over_disk g.D.Disk.tells g.D.Disk.story g.D.Disk.faults c.args.state.now c.run-status.new.state;
  out = over_sink g.O.Sink.tells g.O.Sink.state c.args.out.now c.run-status.new.out;
  err = over_sink g.E.Sink.tells g.E.Sink.state c.args.err.now c.report.new.err;
}) c.run-status.result c.report.result c.run-status.ensures c.report.ensures.reports c.report.ensures.ended

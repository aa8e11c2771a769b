use Rattle.std.proofs.Common.{sym, ◌∙◌, ap}
use Rattle.carte_session.proofs.Seeing.{session_seen}
use Rattle.carte_shell.specs.Answers.{Answers, Ends}
use Rattle.carte_shell.specs.Scenes.{scene}
use Rattle.carte_top.specs.Outcome.{status_of}
use Rattle.carte_top.proofs.session.session_with.Goals as goal

pub returns-in-Ok : goal.returns-in-Ok
returns-in-Ok g c = record {
  end = c.run_session.result;
  status_is = sym (ap status_of c.in-Ok.is);
  goes = session_seen (scene g.D.Disk.story g.D.Disk.faults) (Answers g.D.Disk.tells) (Ends g.D.Disk.tells) g.S.Source.tells g.O.Sink.tells
      (c.args.shell.now, c.args.state.now) (c.run_session.new.machine, c.run_session.new.disk)
      (g.S.Source.state c.args.script.now) (g.S.Source.state c.run_session.new.script) (g.O.Sink.state c.args.out.now) (g.O.Sink.state c.run_session.new.out)
      67108864 c.run_session.result c.run_session.ensures;
}

pub returns-in-Err : goal.returns-in-Err
returns-in-Err g c = record {
  end = c.run_session.result;
  status_is = c.ended.ensures ∙ sym (ap status_of c.in-Err.is);
  goes = session_seen (scene g.D.Disk.story g.D.Disk.faults) (Answers g.D.Disk.tells) (Ends g.D.Disk.tells) g.S.Source.tells g.O.Sink.tells
      (c.args.shell.now, c.args.state.now) (c.run_session.new.machine, c.run_session.new.disk)
      (g.S.Source.state c.args.script.now) (g.S.Source.state c.run_session.new.script) (g.O.Sink.state c.args.out.now) (g.O.Sink.state c.run_session.new.out)
      67108864 c.run_session.result c.run_session.ensures;
}

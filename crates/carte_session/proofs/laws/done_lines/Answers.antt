use Rattle.carte_session.proofs.SessionLaws.{done_lines_are}
use Rattle.carte_session.proofs.laws.done_lines.Goals as goal

pub returns : goal.returns
returns g c = done_lines_are g.M.Machine.answers g.M.Machine.ends g.S.Source.tells g.O.Sink.tells

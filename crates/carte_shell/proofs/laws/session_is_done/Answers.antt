use Rattle.carte_shell.proofs.Lasting.{session_done}
use Rattle.carte_shell.proofs.laws.session_is_done.Goals as goal

pub returns : goal.returns
returns g c = session_done g.D.Disk.tells g.S.Source.tells g.O.Sink.tells

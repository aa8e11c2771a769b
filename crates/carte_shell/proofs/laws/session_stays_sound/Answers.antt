use Rattle.carte_shell.proofs.Sessions.{session_sound}
use Rattle.carte_shell.proofs.laws.session_stays_sound.Goals as goal

pub returns : goal.returns
returns g c = session_sound g.D.Disk.tells g.S.Source.tells g.O.Sink.tells

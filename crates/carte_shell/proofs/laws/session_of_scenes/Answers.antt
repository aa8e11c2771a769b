use Rattle.carte_session.proofs.Seeing.{session_seen}
use Rattle.carte_shell.specs.Answers.{Answers, Ends}
use Rattle.carte_shell.specs.Scenes.{scene}
use Rattle.carte_shell.proofs.laws.session_of_scenes.Goals as goal

pub returns : goal.returns
returns g c = session_seen (scene g.D.Disk.story g.D.Disk.faults) (Answers g.D.Disk.tells) (Ends g.D.Disk.tells) g.S.Source.tells g.O.Sink.tells

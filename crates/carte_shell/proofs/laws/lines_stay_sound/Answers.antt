use Rattle.carte_shell.proofs.Sounding.{lines_sound}
use Rattle.carte_shell.proofs.laws.lines_stay_sound.Goals as goal

pub returns : goal.returns
returns g c = lines_sound g.D.Disk.tells

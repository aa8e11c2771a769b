use Rattle.carte_shell.proofs.Sounding.{end_sound}
use Rattle.carte_shell.proofs.laws.end_leaves_sound.Goals as goal

pub returns : goal.returns
returns g c = end_sound g.D.Disk.tells

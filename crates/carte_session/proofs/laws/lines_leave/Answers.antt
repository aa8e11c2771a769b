use Rattle.carte_session.proofs.Leaves.{lines_leave_sound}
use Rattle.carte_session.proofs.laws.lines_leave.Goals as goal

pub returns : goal.returns
returns g c = lines_leave_sound g.M.Machine.answers (λ m. g.D.Disk.story m.1) g.K.Soundness.is_good g.K.Soundness.is_sound

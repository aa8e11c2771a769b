use Rattle.carte_task.proofs.Driving.{settled_behind}
use Rattle.carte_task.proofs.progress.Progress.settle.Goals as goal

pub returns-in-Behind-clause-rest : goal.returns-in-Behind-clause-rest
returns-in-Behind-clause-rest c = λ kind code len. settled_behind kind _ _ _ _ _ _ c.in-Behind.count c.requires c.in-Behind.is (c.behind-self.ensures.drop code len)

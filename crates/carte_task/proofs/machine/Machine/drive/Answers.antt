use Rattle.carte_task.proofs.Stepping.{under_way_on, drove_steps}
use Rattle.carte_task.proofs.machine.Machine.drive.Goals as goal

pub returns-clause-under_way : goal.returns-clause-under_way
returns-clause-under_way g c = under_way_on _ _ _ _ _ c.go_on.ensures.drove.0

pub returns-clause-steps : goal.returns-clause-steps
returns-clause-steps g c = drove_steps _ _ _ _ _ _ c.go_on.result c.go_on.ensures.drove

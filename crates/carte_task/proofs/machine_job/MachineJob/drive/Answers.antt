use Rattle.carte_task.specs.Machines.{state_of}
use Rattle.carte_task.proofs.Giving.{ran, halted}
use Rattle.carte_task.proofs.machine_job.MachineJob.drive.Goals as goal

pub returns-in-Ok-clause-gave : goal.returns-in-Ok-clause-gave
returns-in-Ok-clause-gave g c = ran state_of _ _ _ _ _ _ c.in-Ok.ended (c.in-Ok.ensures {u = tt}).drove

pub returns-in-Err-clause-gave : goal.returns-in-Err-clause-gave
returns-in-Err-clause-gave g c = halted state_of _ _ _ _ _ _ c.in-Err.halt (c.in-Err.ensures {u = tt}).drove

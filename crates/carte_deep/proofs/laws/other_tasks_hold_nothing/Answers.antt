use Rattle.carte_record.specs.declared.way.Way.TheVariants.{Deep}
use Rattle.carte_rebuild.proofs.Tasked.{other_task}
use Rattle.carte_deep.proofs.laws.other_tasks_hold_nothing.Goals as goal

pub returns : goal.returns
returns g = λ K b k differ. other_task Deep K b k differ

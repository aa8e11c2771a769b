use Rattle.carte_record.specs.declared.way.Way.TheVariants.{Constructive}
use Rattle.carte_rebuild.proofs.Tasked.{other_task}
use Rattle.carte_construct.proofs.laws.other_tasks_hold_nothing.Goals as goal

pub returns : goal.returns
returns c = λ K b k differ. other_task Constructive K b k differ

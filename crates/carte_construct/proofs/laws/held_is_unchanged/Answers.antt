use Rattle.std.proofs.Common.{refl}
use Rattle.carte_record.specs.declared.way.Way.TheVariants.{Constructive}
use Rattle.carte_rebuild.proofs.Tasked.{same_tasks}
use Rattle.carte_construct.proofs.Holds.{unchanged}
use Rattle.carte_construct.proofs.laws.held_is_unchanged.Goals as goal

pub returns : goal.returns
returns g = record {
  task = λ K b c k t of held. same_tasks Constructive refl K b c k t of held;
  needs = λ K b c H k t base stood of held. unchanged K b H base k c t stood of held;
}

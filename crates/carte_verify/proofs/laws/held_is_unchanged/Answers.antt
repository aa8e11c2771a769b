use Rattle.std.proofs.Common.{refl}
use Rattle.carte_record.specs.declared.way.Way.TheVariants.{Verifying}
use Rattle.carte_rebuild.proofs.Tasked.{same_tasks}
use Rattle.carte_verify.proofs.Holds.{unchanged}
use Rattle.carte_verify.proofs.laws.held_is_unchanged.Goals as goal

pub returns : goal.returns
returns g = record {
  task = λ K b c k t of held. same_tasks Verifying refl K b c k t of held;
  needs = λ K b c H k t base stood of held. unchanged K b H base k c t stood of held;
}

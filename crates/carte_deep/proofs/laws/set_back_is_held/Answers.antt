use Rattle.carte_record.specs.declared.way.Way.TheVariants.{Deep}
use Rattle.carte_rebuild.proofs.SetBack.{held_again}
use Rattle.carte_deep.proofs.laws.set_back_is_held.Goals as goal

pub returns : goal.returns
returns g = held_again Deep (λ K k t. tt)

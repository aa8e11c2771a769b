use Rattle.carte_record.specs.declared.way.Way.TheVariants.{Verifying}
use Rattle.carte_rebuild.proofs.Tasked.{other_task}
use Rattle.carte_verify.proofs.Holds.{without_entry, without_trace}
use Rattle.carte_verify.proofs.laws.untraced_is_not_held.Goals as goal

pub returns : goal.returns
returns c = record { no_entry = without_entry; other_result = without_trace; other_task = λ K b k differ. other_task Verifying K b k differ }

use Rattle.std.proofs.Common.{subst}
use Rattle.carte_table.specs.Lookups.{is_link_of}
use Rattle.carte_table.specs.Steps.{Replaces}
use Rattle.carte_table.proofs.seen.Seen.take_in.Goals as goal

pub returns : goal.returns
returns c = subst (λ xs. Replaces is_link_of c.args.left.items xs c.take_in.new.self) c.self.view_is c.take_in.ensures

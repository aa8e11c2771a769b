use Rattle.std.proofs.Common.{subst}
use Rattle.carte_record.specs.Lookups.{is_entry_of}
use Rattle.carte_table.specs.Steps.{Replaces}
use Rattle.carte_record.proofs.entries.Entries.take_in.Goals as goal

pub returns : goal.returns
returns c = (c.take_in.new.self, subst (λ es. Replaces is_entry_of c.args.left.items es c.take_in.new.self) c.self.view_is c.take_in.ensures, c.mark_each.ensures)

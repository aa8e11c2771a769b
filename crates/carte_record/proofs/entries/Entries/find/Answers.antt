use Rattle.std.proofs.Common.{ap, ◌∙◌}
use Rattle.carte_record.specs.Lookups.{first_entry}
use Rattle.carte_record.proofs.entries.Entries.find.Goals as goal

pub returns : goal.returns
returns c = c.find.ensures ∙ ap (λ es. first_entry es c.args.key.now) c.self.view_is

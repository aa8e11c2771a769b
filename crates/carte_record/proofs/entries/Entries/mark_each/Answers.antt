use Rattle.std.proofs.Common.{ap, ◌∙◌}
use Rattle.carte_record.specs.Marked.{all_marked}
use Rattle.carte_record.proofs.entries.Entries.mark_each.Goals as goal

pub returns : goal.returns
returns c = c.mark_each.ensures ∙ ap (λ es. all_marked c.args.stale es c.args.keys.now) c.self.view_is

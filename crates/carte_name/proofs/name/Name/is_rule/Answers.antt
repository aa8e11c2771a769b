use Rattle.std.proofs.Common.{ap, ◌∙◌}
use Rattle.std.specs.Char.{is_ascii_lowercase}
use Rattle.carte_name.proofs.Ascii.{rule_by_first}
use Rattle.carte_name.proofs.name.Name.is_rule.Goals as goal

pub returns : goal.returns
returns c = c.is_ascii_lowercase.ensures.value ∙ ap is_ascii_lowercase c.first.ensures ∙ rule_by_first c.args.self.now c.text_is_name.ensures

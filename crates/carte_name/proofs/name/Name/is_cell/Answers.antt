use Rattle.std.proofs.Common.{ap, ◌∙◌}
use Rattle.std.specs.Char.{is_ascii_uppercase}
use Rattle.carte_name.proofs.Ascii.{cell_by_first}
use Rattle.carte_name.proofs.name.Name.is_cell.Goals as goal

pub returns : goal.returns
returns c = c.is_ascii_uppercase.ensures.value ∙ ap is_ascii_uppercase c.first.ensures ∙ cell_by_first c.args.self.now c.text_is_name.ensures

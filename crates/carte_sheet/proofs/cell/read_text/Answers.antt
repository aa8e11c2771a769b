use Rattle.std.proofs.Common.{sym, ◌∙◌}
use Rattle.carte_sheet.proofs.Fields.{equals_boundary}
use Rattle.carte_sheet.proofs.cell.read_text.Goals as goal

pub split_at-requires : goal.split_at-requires
split_at-requires c = equals_boundary c.args.text.now c.utf8.text (sym c.is_formula.ensures ∙ c.if-is_formula.true)

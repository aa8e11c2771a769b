use Rattle.std.proofs.Common.{sym, ◌∙◌}
use Rattle.carte_name.proofs.Prefixes.{row_none, row_longest}
use Rattle.carte_name.proofs.name_text.row_prefix.Goals as goal

pub returns-then-not-starts_row : goal.returns-then-not-starts_row
returns-then-not-starts_row c = row_none c.args.text.now (sym c.starts_row.ensures ∙ c.if-not-starts_row.true)

pub returns : goal.returns
returns c = row_longest c.args.text.now c.digits.result c.digits.ensures (sym c.starts_row.ensures ∙ c.if-not-starts_row.false)

use Rattle.std.proofs.Common.{refl, string_bytes}
use Rattle.carte_name.proofs.Written.{written_short, written_long}
use Rattle.carte_name.proofs.cell_name.cell_name.Goals as goal

pub returns-then-column-le26 : goal.returns-then-column-le26
returns-then-column-le26 c = written_short c.args.column c.args.row _ (string_bytes c.in_ok-format.field-0) c.if-column-le26.true refl c.in_ok-format.ensures.ok

pub returns : goal.returns
returns c = written_long c.args.column c.args.row _ _ (string_bytes c.in_ok-format-2.field-0) c.if-column-le26.false c.requires.last_column refl refl c.in_ok-format-2.ensures.ok

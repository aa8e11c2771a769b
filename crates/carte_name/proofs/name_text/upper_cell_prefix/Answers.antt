use Rattle.std.proofs.Common.{arith}
use Rattle.carte_name.proofs.CellPrefixes.{upper_longest, upper_longest_none}
use Rattle.carte_name.proofs.name_text.upper_cell_prefix.Goals as goal

pub returns-then-capitals-eq0 : goal.returns-then-capitals-eq0
returns-then-capitals-eq0 c = upper_longest_none c.args.text.now (omega arith)

pub returns : goal.returns
returns c = upper_longest c.args.text.now c.upper_letters-capitals.result c.row_prefix.result c.upper_letters-capitals.ensures.number (omega arith) (rw c.split_at.ensures.back at c.row_prefix.ensures)

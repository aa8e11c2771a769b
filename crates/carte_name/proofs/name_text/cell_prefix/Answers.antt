use Rattle.std.proofs.Common.{arith}
use Rattle.carte_name.proofs.CellPrefixes.{cell_longest, cell_longest_none}
use Rattle.carte_name.proofs.name_text.cell_prefix.Goals as goal

pub returns-then-letters-eq0 : goal.returns-then-letters-eq0
returns-then-letters-eq0 c = cell_longest_none c.args.text.now (omega arith)

pub returns : goal.returns
returns c = cell_longest c.args.text.now c.letters-letters.result c.row_prefix.result c.letters-letters.ensures.number (omega arith) (rw c.split_at.ensures.back at c.row_prefix.ensures)

use Rattle.std.proofs.Common.{rules}
use Rattle.carte_functions.proofs.Lined.{lines_cut, lines_whole}
use Rattle.carte_functions.proofs.lines.first_line.Goals as goal

pub returns-in-Some-clause-lines : goal.returns-in-Some-clause-lines
returns-in-Some-clause-lines c = lines_cut _ c.in-Some.line c.in-Some.behind c.in-Some.ensures.cases

pub returns-in-None-clause-lines : goal.returns-in-None-clause-lines
returns-in-None-clause-lines c = lines_whole _ c.in-None.ensures.cases (search rules)

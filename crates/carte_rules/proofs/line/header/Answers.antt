use Rattle.std.proofs.Common.{rules}
use Rattle.toml.specs.Parse.{line, expression}
use Rattle.carte_rules.proofs.line.header.Goals as goal

pub returns-then-ends_line-clause-value : goal.returns-then-ends_line-clause-value
unfolding line expression
returns-then-ends_line-clause-value c = search rules

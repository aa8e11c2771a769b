use Rattle.std.proofs.Common.{rules}
use Rattle.toml.specs.Parse.{atom}
use Rattle.carte_rules.proofs.line.number.Goals as goal

pub returns-in-Ok-Integer-default-clause-value : goal.returns-in-Ok-Integer-default-clause-value
unfolding atom
returns-in-Ok-Integer-default-clause-value c = search rules

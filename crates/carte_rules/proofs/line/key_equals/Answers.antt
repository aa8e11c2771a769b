use Rattle.std.proofs.Common.{rules}
use Rattle.toml.specs.Parse.{key_equals}
use Rattle.carte_rules.proofs.line.key_equals.Goals as goal

pub returns-then-first-eq61-clause-value : goal.returns-then-first-eq61-clause-value
unfolding key_equals
returns-then-first-eq61-clause-value c = search rules

use Rattle.std.proofs.Common.{rules}
use Rattle.toml_parser.specs.Strings.{simple_key}
use Rattle.carte_rules.proofs.line.simple_key.Goals as goal

pub returns-then-starts_string-clause-value : goal.returns-then-starts_string-clause-value
unfolding simple_key
returns-then-starts_string-clause-value c = search rules

pub returns-then-is_bare-clause-value : goal.returns-then-is_bare-clause-value
unfolding simple_key
returns-then-is_bare-clause-value c = search rules

use Rattle.std.proofs.Common.{rules}
use Rattle.toml_parser.specs.Strings.{quoted}
use Rattle.toml.specs.Parse.{atom}
use Rattle.carte_rules.proofs.line.text.Goals as goal

pub returns-clause-value : goal.returns-clause-value
unfolding atom quoted
returns-clause-value c = search rules

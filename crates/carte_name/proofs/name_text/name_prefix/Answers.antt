use Rattle.std.proofs.Common.{sym, subst}
use Rattle.carte_name.specs.Names.{is_name, is_rule_name, is_cell_name}
use Rattle.carte_name.specs.Prefixes.{IsLongestPrefix}
use Rattle.carte_name.proofs.Prefixes.{longest_of_two}
use Rattle.carte_name.proofs.name_text.name_prefix.Goals as goal

pub returns : goal.returns
returns c =
    subst (IsLongestPrefix is_name c.args.text.now) (sym c.max.ensures) (longest_of_two is_rule_name is_cell_name c.args.text.now c.rule_prefix.result c.upper_cell_prefix.result c.rule_prefix.ensures c.upper_cell_prefix.ensures)

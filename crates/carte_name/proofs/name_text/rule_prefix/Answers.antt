use Rattle.std.proofs.Common.{sym, ap, ◌∙◌}
use Rattle.carte_name.specs.Names.{is_lower}
use Rattle.carte_name.proofs.Prefixes.{rule_none, rule_longest}
use Rattle.carte_name.proofs.name_text.rule_prefix.Goals as goal

pub returns-then-not-is_ascii_lowercase : goal.returns-then-not-is_ascii_lowercase
returns-then-not-is_ascii_lowercase c = rule_none c.args.text.now (ap is_lower (sym c.first.ensures) ∙ sym c.is_ascii_lowercase.ensures.value ∙ c.if-not-is_ascii_lowercase.true)

pub returns : goal.returns
returns c = rule_longest c.args.text.now c.rule_bytes.result c.rule_bytes.ensures (ap is_lower (sym c.first.ensures) ∙ sym c.is_ascii_lowercase.ensures.value ∙ c.if-not-is_ascii_lowercase.false)

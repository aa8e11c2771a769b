use Rattle.std.proofs.Common.{◌≡◌, ◌++◌, Ok, Err, codes, decimal, ◌∙◌}
use Rattle.carte_name.specs.declared.name_fault.NameFault.TheVariants.{BadName}
use Rattle.carte_generate.proofs.KeyNames.{name_read, never_bad}
use Rattle.carte_generate.proofs.keys.key.Goals as goal

pub returns-in-Ok-clause-key : goal.returns-in-Ok-clause-key
returns-in-Ok-clause-key c =
    let is : c.rule.result ≡ Ok c.in-Ok.name = cc in
    name_read c.args.number c.as_str.result.now c.in-Ok.name c.rule.result (c.as_str.ensures.value ∙ c.in_ok-text.ensures.ok) c.rule.ensures is

pub unreachable-requires : goal.unreachable-requires
unreachable-requires c =
    let is : c.rule.result ≡ Err (BadName c.in-Err-BadName.field-0-0) = cc in
    never_bad c.args.number c.as_str.result.now c.rule.result c.in-Err-BadName.field-0-0 c.requires (c.as_str.ensures.value ∙ c.in_ok-text.ensures.ok) c.rule.ensures is

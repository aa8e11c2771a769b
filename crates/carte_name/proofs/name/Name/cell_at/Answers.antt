use Rattle.std.proofs.Common.{◌∙◌}
use Rattle.carte_name.proofs.Written.{at_is_name}
use Rattle.carte_name.proofs.name.Name.cell_at.Goals as goal

pub held-requires : goal.held-requires
held-requires c = at_is_name c.args.column c.args.row c.as_str.result.now c.requires (c.as_str.ensures.value ∙ c.in_ok-text.ensures)

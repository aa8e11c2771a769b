use Rattle.std.proofs.Common.{refl, length}
use Rattle.carte_name.proofs.Fronts.{held_short, taken}
use Rattle.carte_name.proofs.name.Name.short.Goals as goal

pub invariant_of-result : goal.invariant_of-result
invariant_of-result c = held_short c.args.text.now c.args.front _ (length c.args.text.now) _ c.requires.name c.requires.padded refl refl c.requires.few

pub returns : goal.returns
returns c = taken c.args.text.now c.args.front (length c.args.text.now) c.requires.padded refl c.requires.few

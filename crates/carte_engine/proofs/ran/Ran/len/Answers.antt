use Rattle.std.proofs.Common.{◌∙◌, length, ap}
use Rattle.carte_engine.proofs.Sorting.{sorted_length}
use Rattle.carte_engine.proofs.ran.Ran.len.Goals as goal

pub returns : goal.returns
returns c = ap length c.as_slice.ensures.value ∙ (sorted_length c.self.inside.keys.items c.self.invariant ∙ ap length c.self.view_is)

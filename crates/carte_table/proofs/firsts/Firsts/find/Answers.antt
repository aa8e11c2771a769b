use Rattle.std.proofs.Common.{ap, ◌∙◌}
use Rattle.std.specs.Prelude.{find}
use Rattle.carte_table.specs.Lookups.{has_key}
use Rattle.carte_table.proofs.firsts.Firsts.find.Goals as goal

pub returns : goal.returns
returns g c =
    let has = has_key g.T.Keyed.key_of in
    c.first.ensures has (rw c.as_slice.ensures.value c.self.invariant.1) ∙ ap (find (has c.args.key.now)) (c.as_slice.ensures.value ∙ c.self.view_is)

use Rattle.std.proofs.Common.{◌∙◌, refl, rules, map, subst}
use Rattle.std.specs.List.{IsDistinct}
use Rattle.carte_name.specs.Names.{name_eq}
use Rattle.carte_table.specs.Lookups.{has_key}
use Rattle.carte_table.proofs.Lengths.{whatever_known}
use Rattle.carte_table.proofs.firsts.Firsts.length.Goals as goal

pub returns-clause-once : goal.returns-clause-once
returns-clause-once g c =
    whatever_known c.self.inside.known (IsDistinct name_eq (map g.T.Keyed.key_of c.args.self.now))
    (subst (λ xs. IsDistinct name_eq (map g.T.Keyed.key_of xs)) (c.as_slice.ensures.value ∙ c.self.view_is)
    (c.each_once.ensures (search rules) (has_key g.T.Keyed.key_of) g.T.Keyed.key_of (λ k x. refl) (rw c.as_slice.ensures.value c.self.invariant.1)))

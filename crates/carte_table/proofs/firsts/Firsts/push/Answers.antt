use Rattle.std.proofs.Common.{◌∙◌, ap, sym}
use Rattle.carte_name.specs.Names.{name_eq}
use Rattle.carte_table.specs.Lookups.{has_key}
use Rattle.carte_table.proofs.Names.{name_eq_sym}
use Rattle.carte_table.proofs.firsts.Firsts.push.Goals as goal

pub invariant_of-self : goal.invariant_of-self
invariant_of-self g c = (
  c.push.ensures.bound,
  c.push.ensures.table (has_key g.T.Keyed.key_of) (λ q. name_eq_sym q (g.T.Keyed.key_of c.args.item) ∙ sym (ap (λ k. name_eq k q) (c.in_ok-key.ensures {u = tt} ∙ c.key.ensures))) c.self.invariant.1,
  rw ((c.in_err-push.ensures {u = tt}).items) c.self.invariant.2,
)

pub invariant_of-self-2 : goal.invariant_of-self-2
invariant_of-self-2 g c = (
  c.push.ensures.bound,
  c.push.ensures.table (has_key g.T.Keyed.key_of) (λ q. name_eq_sym q (g.T.Keyed.key_of c.args.item) ∙ sym (ap (λ k. name_eq k q) (c.in_ok-key.ensures {u = tt} ∙ c.key.ensures))) c.self.invariant.1,
  rw ((c.in_ok-push.ensures {u = tt}).items) (c.with_item-known.ensures c.self.inside.items.items c.self.invariant.2),
)

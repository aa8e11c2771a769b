use Rattle.std.proofs.Common.{◌∙◌, ap, sym}
use Rattle.carte_name.specs.Names.{name_eq}
use Rattle.carte_value.specs.Spelling.{digest_of}
use Rattle.carte_table.specs.Lookups.{is_value_of}
use Rattle.carte_table.proofs.Names.{name_eq_sym}
use Rattle.carte_table.proofs.FirstPlaces.{map_end}
use Rattle.carte_table.proofs.store.Store.push_with.Goals as goal

pub invariant_of-self-in_err-push : goal.invariant_of-self-in_err-push
invariant_of-self-in_err-push c = (
  c.push.ensures.bound,
  rw ((c.in_err-push.ensures {u = tt}).items, c.make_place.ensures.items) c.self.invariant.1,
  c.push.ensures.table (λ d. is_value_of (record { 0 = d })) (λ q. name_eq_sym q (digest_of c.args.value).0 ∙ sym (ap (λ d. name_eq d.0 q) c.requires) ∙ sym (ap (λ k. name_eq k q) c.of-key.ensures)) c.self.invariant.2,
  rw ((c.in_err-push.ensures {u = tt}).items) c.self.invariant.3,
)

pub invariant_of-self-2 : goal.invariant_of-self-2
invariant_of-self-2 c = (
  c.push.ensures.bound,
  rw (c.push_reserved.ensures.items, c.make_place.ensures.items, c.self.invariant.1, (c.in_ok-push.ensures {u = tt}).items, c.requires) (sym (map_end digest_of _ _)),
  c.push.ensures.table (λ d. is_value_of (record { 0 = d })) (λ q. name_eq_sym q (digest_of c.args.value).0 ∙ sym (ap (λ d. name_eq d.0 q) c.requires) ∙ sym (ap (λ k. name_eq k q) c.of-key.ensures)) c.self.invariant.2,
  rw ((c.in_ok-push.ensures {u = tt}).items) (c.with_item-known.ensures c.self.inside.values.items c.self.invariant.3),
)

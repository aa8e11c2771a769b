use Rattle.std.proofs.Common.{◌≡◌, [], ◌∷◌, length, subst, ap, rules, arith, length-append}
use Rattle.std.specs.HashMap.{get}
use Rattle.carte_name.specs.Names.{name_eq}
use Rattle.carte_codec.specs.Lengths.{IsLengthOf}
use Rattle.carte_table.specs.Places.{ForgetsPlace, IsFirstPlaces}
use Rattle.carte_table.specs.Lookups.{has_key}
use Rattle.carte_table.proofs.Names.{name_eq_is, name_eq_self, name_eq_sym}
use Rattle.carte_table.proofs.FirstPlaces.{place_forgotten}
use Rattle.carte_table.proofs.firsts.Firsts.pop.Goals as goal

pub invariant_of-self : goal.invariant_of-self
invariant_of-self g c =
    let key = g.T.Keyed.key_of in
    let was = (c.in-Some.ensures {u = tt}).items in
    let item = c.in-Some.item in
    let end : c.len.result ≡ length c.pop.new.self.items = search rules in (
      omega (arith, ap length was, length-append c.pop.new.self.items (item ∷ []), c.self.invariant.0),
      place_forgotten name_eq (has_key key) c.pop.new.self.items item (key item) (get name_eq c.self.inside.places) (get name_eq c.forget.new.table) c.len.result end
          (λ q. name_eq_sym q (key item)) (λ q. name_eq_is (key item) q) (name_eq_self (key item))
          (subst (λ xs. IsFirstPlaces (has_key key) xs (get name_eq c.self.inside.places)) was c.self.invariant.1)
          (subst (λ k. ForgetsPlace name_eq (get name_eq c.self.inside.places) (get name_eq c.forget.new.table) k c.len.result) c.key.ensures c.forget.ensures),
      c.without_item-self-inside.ensures c.pop.new.self.items (subst (λ xs. IsLengthOf g.T.Measured.spelled xs c.self.inside.known) was c.self.invariant.2),
    )

use Rattle.std.proofs.Common.{[], ◌∷◌, ◌≤◌, length, subst, ap, arith, length-append, ℕ, List}
use Rattle.std.specs.HashMap.{get}
use Rattle.carte_name.specs.Names.{name_eq}
use Rattle.carte_table.specs.KeyPlaces.{places_in}
use Rattle.carte_table.specs.Places.{ArePlaces, DropsPlace}
use Rattle.carte_table.specs.Latest.{latest_length}
use Rattle.carte_table.specs.Lookups.{has_key}
use Rattle.carte_table.proofs.Names.{name_eq_sym}
use Rattle.carte_table.proofs.AllPlaces.{places_dropped}
use Rattle.carte_table.proofs.all.All.pop.Goals as goal

pub invariant_of-self : goal.invariant_of-self
invariant_of-self g c =
    let key = g.T.Keyed.key_of in
    let item = c.in-Some.item in
    let old : List ℕ → List ℕ = λ q. places_in (get name_eq c.self.inside.places q) in
    let new : List ℕ → List ℕ = λ q. places_in (get name_eq c.forget.new.table q) in
    let was = (c.in-Some.ensures {u = tt}).items in (
      omega (arith, ap length was, length-append c.pop.new.self.items (item ∷ []), c.self.invariant.0),
      places_dropped name_eq (has_key key) c.pop.new.self.items item (key item) old new
          (λ q. name_eq_sym q (key item))
          (subst (λ xs. ArePlaces (has_key key) xs old) was c.self.invariant.1)
          (subst (DropsPlace name_eq old new) c.key.ensures c.forget.ensures),
      c.without_last-self-inside.ensures c.pop.new.self.items (subst (λ xs. c.self.inside.least ≤ latest_length g.T.Compared.alike g.T.Measured.spelled xs) was c.self.invariant.2),
    )

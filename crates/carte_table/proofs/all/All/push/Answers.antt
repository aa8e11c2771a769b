use Rattle.std.proofs.Common.{◌≡◌, ◌<◌, false, ◌∙◌, ap, sym, subst, length, rules, ℕ, List}
use Rattle.std.specs.HashMap.{get}
use Rattle.std.specs.List.{list_any}
use Rattle.carte_name.specs.Names.{name_eq}
use Rattle.carte_table.specs.KeyPlaces.{places_in}
use Rattle.carte_table.specs.Places.{ArePlaces}
use Rattle.carte_table.specs.Lookups.{has_key}
use Rattle.carte_table.proofs.Names.{name_eq_sym}
use Rattle.carte_table.proofs.AllPlaces.{places_added}
use Rattle.carte_table.proofs.all.All.push.Goals as goal

pub invariant_of-self-2 : goal.invariant_of-self-2
invariant_of-self-2 g c =
    let key = g.T.Keyed.key_of in
    let alike = g.T.Compared.alike c.args.item in
    let was : List ℕ → List ℕ = λ q. places_in (get name_eq c.self.inside.places q) in
    let old = c.self.inside.items.items in
    let here = c.as_slice-here.result.now in
    let same : here ≡ old = c.as_slice-here.ensures.value ∙ c.make_place.ensures.items in
    let made = c.in_ok-is_new.ensures {u = tt} in
    let room : length c.push_reserved.new.self.items < 4294967296 = search rules in (
      room,
      rw (c.push_reserved.ensures.items, c.make_place.ensures.items) (places_added name_eq (has_key key) old c.args.item c.in_ok-key.key was (λ q. places_in (get name_eq c.add.new.table q)) (length here) (ap length same)
          (λ q. name_eq_sym q (key c.args.item) ∙ sym (ap (λ k. name_eq k q) (c.in_ok-key.ensures {u = tt} ∙ c.key.ensures))) c.self.invariant.1 made.ok),
      rw (c.push_reserved.ensures.items, c.make_place.ensures.items) (c.with_last-self-inside.ensures old
          (λ is. subst (λ xs. list_any alike xs ≡ false) same (made.is_new is (subst (λ xs. ArePlaces (has_key key) xs was) (sym same) c.self.invariant.1)))
          c.self.invariant.2),
    )

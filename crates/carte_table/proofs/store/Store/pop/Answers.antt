use Rattle.std.proofs.Common.{◌≡◌, [], ◌∷◌, length, map, subst, sym, ◌∙◌, ap, rules, arith, length-append}
use Rattle.std.proofs.lemmas.List.{same_from_push}
use Rattle.std.specs.HashMap.{get}
use Rattle.carte_name.specs.Names.{name_eq}
use Rattle.carte_codec.specs.Lengths.{IsLengthOf}
use Rattle.carte_value.specs.Spelling.{digest_of, spelling}
use Rattle.carte_table.specs.Places.{IsFirstPlaces}
use Rattle.carte_table.specs.Lookups.{is_value_of}
use Rattle.carte_table.proofs.Names.{name_eq_is, name_eq_self, name_eq_sym}
use Rattle.carte_table.proofs.FirstPlaces.{place_forgotten, map_end}
use Rattle.carte_table.proofs.store.Store.pop.Goals as goal

pub invariant_of-self : goal.invariant_of-self
invariant_of-self c =
    let was = (c.in-Some.ensures {u = tt}).items in
    let had = (c.in-Some-pop.ensures {u = tt}).items in
    let ends = same_from_push c.pop-in-Some.new.self.items (map digest_of c.pop.new.self.items) c.in-Some-pop.digest (digest_of c.in-Some.value)
    (sym had ∙ (c.self.invariant.1 ∙ (ap (map digest_of) was ∙ map_end digest_of c.pop.new.self.items c.in-Some.value))) in
    let end : c.len.result ≡ length c.pop.new.self.items = search rules in (
      omega (arith, ap length was, length-append c.pop.new.self.items (c.in-Some.value ∷ []), c.self.invariant.0),
      ends.0,
      place_forgotten name_eq (λ d. is_value_of (record { 0 = d })) c.pop.new.self.items c.in-Some.value c.of-key.result (get name_eq c.self.inside.places) (get name_eq c.forget.new.table) c.len.result end
          (λ q. name_eq_sym q (digest_of c.in-Some.value).0 ∙ sym (ap (λ d. name_eq d.0 q) ends.1) ∙ sym (ap (λ k. name_eq k q) c.of-key.ensures)) (λ q. name_eq_is c.of-key.result q) (name_eq_self c.of-key.result)
          (subst (λ xs. IsFirstPlaces (λ d. is_value_of (record { 0 = d })) xs (get name_eq c.self.inside.places)) was c.self.invariant.2) c.forget.ensures,
      c.without_item-self-inside.ensures c.pop.new.self.items (subst (λ xs. IsLengthOf spelling xs c.self.inside.known) was c.self.invariant.3),
    )

use Rattle.std.proofs.Common.{◌≡◌, ◌<◌, true, false, length, refl, ap, sym, ◌∙◌, inl, inr, rules}
use Rattle.std.specs.Prelude.{find, is_some}
use Rattle.std.specs.HashMap.{get}
use Rattle.carte_name.specs.Names.{name_eq}
use Rattle.carte_table.specs.Lookups.{has_key}
use Rattle.carte_table.proofs.Names.{name_eq_sym}
use Rattle.carte_table.proofs.FirstPlaces.{place_added, place_misses, place_there}
use Rattle.carte_table.proofs.firsts.Firsts.bring.Goals as goal

pub returns-then-not-branch-clause-ok : goal.returns-then-not-branch-clause-ok
returns-then-not-branch-clause-ok g c =
    let had : c.in_ok-add_place.field-0 ≡ false = search rules in
    let passes = has_key g.T.Keyed.key_of (g.T.Keyed.key_of c.args.item) in
    let key = c.in_ok-key.ensures {u = tt} ∙ c.key.ensures in
    let there = sym (ap is_some (ap (get name_eq c.self.inside.places) key ∙ c.self.invariant.1 (g.T.Keyed.key_of c.args.item))) ∙ ((c.in_ok-add_place.ensures {u = tt}).ok.there had).0 in
    inr (sym (ap (λ xs. is_some (find passes xs)) c.self.view_is) ∙ sym (place_there passes c.self.inside.items.items) ∙ there, search rules, search rules)

pub invariant_of-self-2 : goal.invariant_of-self-2
invariant_of-self-2 g c =
    let new : c.in_ok-add_place.field-0 ≡ true = search rules in
    let items = c.self.inside.items.items in
    let item = c.args.item in
    let enters = c.in_ok-add_place.ensures {u = tt} in
    let key = c.in_ok-key.ensures {u = tt} ∙ c.key.ensures in
    let room : length c.push_reserved.new.self.items < 4294967296 = search rules in (
      room,
      rw (c.push_reserved.ensures.items, c.add_place.ensures.items) (place_added name_eq (has_key g.T.Keyed.key_of) items item c.in_ok-key.key (get name_eq c.self.inside.places) (get name_eq c.add_place.new.table) (length items) refl
          (λ q. name_eq_sym q (g.T.Keyed.key_of item) ∙ sym (ap (λ k. name_eq k q) key)) c.self.invariant.1 (enters.ok.put new).1),
      rw (c.push_reserved.ensures.items, c.add_place.ensures.items) (c.with_item-self-inside.ensures items c.self.invariant.2),
    )

pub returns-clause-ok : goal.returns-clause-ok
returns-clause-ok g c =
    let new : c.in_ok-add_place.field-0 ≡ true = search rules in
    let passes = has_key g.T.Keyed.key_of (g.T.Keyed.key_of c.args.item) in
    let key = c.in_ok-key.ensures {u = tt} ∙ c.key.ensures in
    let lacks = sym (ap (get name_eq c.self.inside.places) key ∙ c.self.invariant.1 (g.T.Keyed.key_of c.args.item)) ∙ ((c.in_ok-add_place.ensures {u = tt}).ok.put new).0 in
    inl (ap (find passes) (sym c.self.view_is) ∙ place_misses passes c.self.inside.items.items lacks, search rules, refl)

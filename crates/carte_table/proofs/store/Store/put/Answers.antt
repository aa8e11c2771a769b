use Rattle.std.proofs.Common.{◌≡◌, ◌<◌, Bool, true, false, List, length, Option, Some, None, refl, ap, sym, ◌∙◌, subst, rules}
use Rattle.std.specs.Prelude.{find, is_some, if◌then◌else◌}
use Rattle.std.specs.HashMap.{get}
use Rattle.std.specs.Option.{option_or}
use Rattle.carte_name.specs.Names.{name_eq}
use Rattle.carte_value.specs.Spelling.{digest_of}
use Rattle.carte_value.specs.declared.digest.Digest.{Digest}
use Rattle.carte_value.specs.declared.value.Value.{Value}
use Rattle.carte_table.specs.Lookups.{first_value, is_value_of}
use Rattle.carte_table.proofs.Found.{find_end, or_none}
use Rattle.carte_table.proofs.Names.{name_eq_is, name_eq_sym}
use Rattle.carte_table.proofs.FirstPlaces.{map_end, place_added, place_there}
use Rattle.carte_table.proofs.store.Store.put.Goals as goal

-- a value behind one of its digest is no first one
found : (vs : List Value) (v : Value) → is_some (first_value vs (digest_of v)) ≡ true → (d : Digest) → first_value vs d ≡ option_or (first_value vs d) (if is_value_of d v then Some v else None)
found vs v there d = on (is_value_of d v) refl
  where
    kept : (o p : Option Value) → is_some o ≡ true → o ≡ option_or o p
    kept None p some = cc
    kept (Some w) p some = refl

    on : (b : Bool) → is_value_of d v ≡ b → first_value vs d ≡ option_or (first_value vs d) (if b then Some v else None)
    on true is = kept (first_value vs d) (Some v) (subst (λ k. is_some (find (λ w. name_eq k (digest_of w).0) vs) ≡ true) (sym (name_eq_is d.0 (digest_of v).0 is)) there)
    on false is = sym (or_none (first_value vs d))

pub returns-then-not-branch-clause-ok : goal.returns-then-not-branch-clause-ok
returns-then-not-branch-clause-ok c d =
    let had : c.in_ok-add_place.field-0 ≡ false = search rules in
    let values = c.self.inside.values.items in
    let key = c.of-key.ensures ∙ ap (λ k. k.0) c.requires in
    let there = sym (place_there (is_value_of (digest_of c.args.value)) values) ∙ sym (ap is_some (ap (get name_eq c.self.inside.places) key ∙ c.self.invariant.2 (digest_of c.args.value).0)) ∙ ((c.in_ok-add_place.ensures {u = tt}).ok.there had).0 in
    rw c.add_place.ensures.items (subst (λ vs. first_value values d ≡ option_or (first_value vs d) (if is_value_of d c.args.value then Some c.args.value else None)) c.self.view_is (found values c.args.value there d))

pub invariant_of-self-2 : goal.invariant_of-self-2
invariant_of-self-2 c =
    let new : c.in_ok-add_place.field-0 ≡ true = search rules in
    let values = c.self.inside.values.items in
    let enters = c.in_ok-add_place.ensures {u = tt} in
    let key = c.of-key.ensures ∙ ap (λ k. k.0) c.requires in
    let room : length c.push_reserved.new.self.items < 4294967296 = search rules in (
      room,
      rw (c.push_reserved-2.ensures.items, c.make_place.ensures.items, c.self.invariant.1, c.push_reserved.ensures.items, c.add_place.ensures.items, c.requires) (sym (map_end digest_of _ _)),
      rw (c.push_reserved.ensures.items, c.add_place.ensures.items) (place_added name_eq (λ k. is_value_of (record { 0 = k })) values c.args.value c.of-key.result (get name_eq c.self.inside.places) (get name_eq c.add_place.new.table) (length values) refl
          (λ q. name_eq_sym q (digest_of c.args.value).0 ∙ sym (ap (λ k. name_eq k q) key)) c.self.invariant.2 (enters.ok.put new).1),
      rw (c.push_reserved.ensures.items, c.add_place.ensures.items) (c.with_item-self-inside.ensures values c.self.invariant.3),
    )

pub returns-clause-ok : goal.returns-clause-ok
returns-clause-ok c d = rw (c.push_reserved.ensures.items, c.add_place.ensures.items, c.self.view_is) (find_end (is_value_of d) c.args.self.now c.args.value)

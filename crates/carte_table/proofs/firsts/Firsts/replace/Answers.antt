use Rattle.std.proofs.Common.{◌≡◌, ◌∙◌, ap, sym, subst}
use Rattle.std.specs.HashMap.{get}
use Rattle.carte_name.specs.Names.{name_eq}
use Rattle.carte_codec.specs.Lengths.{IsLengthOf}
use Rattle.carte_table.specs.Changes.{change_first}
use Rattle.carte_table.specs.Lookups.{has_key}
use Rattle.carte_table.specs.Places.{first_place}
use Rattle.carte_table.proofs.Names.{name_eq_is}
use Rattle.carte_table.proofs.Changed.{place_kept, length_changed}
use Rattle.carte_table.proofs.firsts.Firsts.replace.Goals as goal

pub invariant_of-self : goal.invariant_of-self
invariant_of-self g c =
    let key = g.T.Keyed.key_of in
    let spelled = g.T.Measured.spelled in
    let item = c.args.item in
    let items = c.self.inside.items.items in
    let passes = has_key key (key item) in
    let at = c.place-at.ensures ∙ ap (get name_eq c.self.inside.places) c.key.ensures ∙ c.self.invariant.1 (key item) in
    let new = c.set.ensures passes at in
    let long = subst (λ xs. c.place-at.result ≡ first_place passes xs → IsLengthOf spelled xs c.self.inside.known → IsLengthOf spelled (change_first passes (λ x. item) xs) c.length_with-known.result)
    c.as_slice.ensures.value (c.length_with-known.ensures passes) in (
      rw (new, length_changed passes (λ x. item) items) c.self.invariant.0,
      λ k. rw new (c.self.invariant.1 k ∙ sym (place_kept (has_key key k) passes (λ x. item) items (λ y h. ap (name_eq k) (name_eq_is (key item) (key y) h)))),
      rw new (long at c.self.invariant.2),
    )

pub returns : goal.returns
returns g c =
    let key = g.T.Keyed.key_of in
    let item = c.args.item in
    let passes = has_key key (key item) in
    c.set.ensures passes (c.place-at.ensures ∙ ap (get name_eq c.self.inside.places) c.key.ensures ∙ c.self.invariant.1 (key item)) ∙ ap (change_first passes (λ x. item)) c.self.view_is

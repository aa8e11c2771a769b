use Rattle.std.proofs.Common.{◌≡◌, ◌∙◌, length, sym, subst, ap}
use Rattle.std.specs.Prelude.{IfSome}
use Rattle.carte_name.specs.Names.{name_eq}
use Rattle.carte_table.specs.Lookups.{has_key}
use Rattle.carte_table.proofs.Changed.{place_kept, length_changed, changed_spelling}
use Rattle.carte_table.proofs.firsts.Firsts.mark.Goals as goal

pub invariant_of-self : goal.invariant_of-self
invariant_of-self g c =
    let has = has_key g.T.Keyed.key_of in
    let mark = g.T.Marked.marked c.args.is_marked in
    let items = c.self.inside.items.items in
    let passes = has c.args.key.now in
    let new = c.mark.ensures passes (c.place-at.ensures ∙ c.self.invariant.1 c.args.key.now) in (
      rw (new, length_changed passes mark items) c.self.invariant.0,
      λ k. rw new (c.self.invariant.1 k ∙ sym (place_kept (has k) passes mark items (λ y h. ap (name_eq k) (g.met.T.Marked.key_stays c.args.is_marked y)))),
      rw new (subst (λ bytes. IfSome c.self.inside.known (λ n. n ≡ length bytes)) (sym (changed_spelling g.T.Measured.spelled passes mark (g.met.T.Marked.spelling_stays c.args.is_marked) items)) c.self.invariant.2),
    )

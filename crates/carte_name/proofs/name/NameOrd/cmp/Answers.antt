use Rattle.std.proofs.Common.{ap, ap₂, ◌∙◌, subst, sym, take}
use Rattle.carte_name.specs.Names.{name_cmp}
use Rattle.carte_name.specs.Fronts.{front_of, shown, Fits}
use Rattle.carte_name.proofs.Fronts.{unlike_order, short_order, same_by_order}
use Rattle.carte_name.proofs.name.NameOrd.cmp.Goals as goal

pub returns-in_default-order : goal.returns-in_default-order
returns-in_default-order c =
    let fits = subst Fits c.in-Short-Short.is-0 c.self.invariant.fits in
    let fits' = subst Fits c.in-Short-Short.is-1 c.other.invariant.fits in
    let one = sym (ap shown c.in-Short-Short.is-0) ∙ c.self.view_is in
    let two = sym (ap shown c.in-Short-Short.is-1) ∙ c.other.view_is in
    unlike_order c.args.self.now c.args.other.now _ (c.order.ensures ∙ ap₂ name_cmp (fits.0 ∙ ap front_of one) (fits'.0 ∙ ap front_of two)) c.in_default-order.not-Equal

pub returns-in-Equal : goal.returns-in-Equal
returns-in-Equal c =
    let f = c.in-Short-Short.front in
    let g = c.in-Short-Short.theirs in
    let n = c.in-Short-Short.length in
    let m = c.in-Short-Short.others in
    let fits = subst Fits c.in-Short-Short.is-0 c.self.invariant.fits in
    let fits' = subst Fits c.in-Short-Short.is-1 c.other.invariant.fits in
    let one = sym (ap shown c.in-Short-Short.is-0) ∙ c.self.view_is in
    let two = sym (ap shown c.in-Short-Short.is-1) ∙ c.other.view_is in
    let same = same_by_order f g c.in-Equal.ensures in
    c.cmp.ensures ∙ short_order f g (take n f) n m fits.0 fits.1 fits'.1 same ∙ ap₂ name_cmp one two

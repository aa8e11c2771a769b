use Rattle.std.proofs.Common.{ap, ap₂, ◌∙◌, subst, sym, take}
use Rattle.carte_name.specs.Names.{name_eq}
use Rattle.carte_name.specs.Fronts.{shown, Fits}
use Rattle.carte_name.proofs.Fronts.{short_alike}
use Rattle.carte_name.proofs.name.NamePartialEq.eq.Goals as goal

pub returns-then-alike : goal.returns-then-alike
returns-then-alike c =
    let f = c.in-Short-Short.front in
    let g = c.in-Short-Short.theirs in
    let n = c.in-Short-Short.length in
    let fits = subst Fits c.in-Short-Short.is-0 c.self.invariant.fits in
    let fits' = subst Fits c.in-Short-Short.is-1 c.other.invariant.fits in
    let one = sym (ap shown c.in-Short-Short.is-0) ∙ c.self.view_is in
    let two = sym (ap shown c.in-Short-Short.is-1) ∙ c.other.view_is in
    short_alike f g (take n f) n c.in-Short-Short.others fits.0 fits.1 fits'.1 c.if-alike.ensures ∙ ap₂ name_eq one two

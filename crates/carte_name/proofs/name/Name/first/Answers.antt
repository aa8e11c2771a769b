use Rattle.std.proofs.Common.{◌≡◌, take, ap, sym, subst, ◌∙◌, slice_index}
use Rattle.carte_name.specs.Fronts.{shown, Fits, front_of}
use Rattle.carte_name.proofs.Fronts.{first_of_front}
use Rattle.carte_name.proofs.name.Name.first.Goals as goal

pub returns-in-Short : goal.returns-in-Short
returns-in-Short c =
    let k = c.args.self.now in
    let fits = subst Fits c.in-Short.is c.self.invariant.fits in
    let whole : take c.in-Short.field-0 c.in-Short.front ≡ k = sym (ap shown c.in-Short.is) ∙ c.self.view_is in
    ap (λ f. slice_index f 0) (fits.0 ∙ ap front_of whole) ∙ first_of_front k

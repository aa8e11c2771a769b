use Rattle.std.proofs.Common.{◌≡◌, ◌≤◌, ◌<◌, ◌∙◌, ℕ, [], ◌∷◌, length, take, ap, sym, subst, arith, length-take, rules}
use Rattle.std.specs.Arc.{arc_str_bytes}
use Rattle.carte_name.specs.Fronts.{shown, Fits, fed, front_of}
use Rattle.carte_name.proofs.Fronts.{fed_short, fed_long}
use Rattle.carte_name.proofs.name.NameHash.hash.Goals as goal

pub returns-in-Short : goal.returns-in-Short
returns-in-Short c c' =
    let k = c'.args.self.now in
    let f = c'.in-Short.front in
    let n : ℕ = c'.in-Short.field-0 in
    let fits = subst Fits c'.in-Short.is c'.self.invariant.fits in
    let few : n ≤ 16 = fits.1 in
    let one : take n f ≡ k = sym (ap shown c'.in-Short.is) ∙ c'.self.view_is in
    let long : length k ≤ 16 = omega (arith, length-take n f, ap length one) in
    let is : fed k ≡ f ∷ [] = fed_short k long ∙ ap (λ g. g ∷ []) (sym (fits.0 ∙ ap front_of one)) in
    rw is (search rules)

pub returns-in-Long : goal.returns-in-Long
returns-in-Long c c' =
    let k = c'.args.self.now in
    let t = arc_str_bytes c'.in-Long.text in
    let many : 16 < length t = subst Fits c'.in-Long.is c'.self.invariant.fits in
    let one : t ≡ k = sym (ap shown c'.in-Long.is) ∙ c'.self.view_is in
    let is : fed k ≡ k ∷ [] = fed_long k (subst (λ l. 16 < length l) one many) in
    rw (is, ← one) (search rules)

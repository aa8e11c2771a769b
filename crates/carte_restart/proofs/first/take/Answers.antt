use Rattle.std.proofs.Common.{◌≡◌, true, false, [], ◌∷◌, ◌++◌, Some, is_some, refl, ap, sym, ◌∙◌, subst}
use Rattle.carte_value.specs.Numbers.{number_of}
use Rattle.carte_mark.proofs.Finding.{among_number}
use Rattle.carte_mark.proofs.Putting.{get_among}
use Rattle.carte_restart.specs.Led.{AreTaken}
use Rattle.carte_restart.proofs.Taking.{taken_off, taken_more, place_within}
use Rattle.carte_restart.proofs.first.take.Goals as goal

pub returns-in-Some-clause-among : goal.returns-in-Some-clause-among
returns-in-Some-clause-among c = ((λ is. get_among c.args.led.now c.in-Some.at c.args.name.now c.in-Some.ensures.there), (λ among. refl))

pub returns-in-Some-clause-taken : goal.returns-in-Some-clause-taken
returns-in-Some-clause-taken c ks so =
    let keys = c.args.led.now in
    let name = c.args.name.now in
    let at = c.in-Some.at in
    let place : number_of keys name ≡ Some at = sym c.find.ensures.number ∙ c.in-Some.is in
    subst (AreTaken keys (ks ++ name ∷ [])) (sym (c.put_true.ensures (place_within keys ks c.args.taken.now.items name so at place))) (taken_more keys ks c.args.taken.now.items name so at place)

pub returns-in-None-clause-among : goal.returns-in-None-clause-among
returns-in-None-clause-among c = (
  (λ is. absurd (let never = is in cc)),
  (λ among. ap is_some (sym c.in-None.is ∙ c.find.ensures.number) ∙ among_number c.args.led.now c.args.name.now among),
)

pub returns-in-None-clause-taken : goal.returns-in-None-clause-taken
returns-in-None-clause-taken c ks so =
    let keys = c.args.led.now in
    let name = c.args.name.now in
    taken_off keys ks c.args.taken.now.items name so (λ among. let both : false ≡ true = ap is_some (sym c.in-None.is ∙ c.find.ensures.number) ∙ among_number keys name among in cc)

use Rattle.std.proofs.Common.{◌≡◌, ℕ, List, true, Option, Some, None, is_some, slice_get, sym, ap, ◌∙◌}
use Rattle.std.specs.Prelude.{IfSome}
use Rattle.carte_value.specs.Truths.{Among}
use Rattle.carte_mark.proofs.Finding.{among_number}
use Rattle.carte_mark.proofs.Putting.{get_among}
use Rattle.carte_mark.proofs.set.holds.Goals as goal

found : (ks : List (List ℕ)) (k : List ℕ) (o : Option ℕ) → IfSome o (λ at. slice_get ks at ≡ Some k) → is_some o ≡ true → Among ks k
found ks k (Some at) there is = get_among ks at k there
found ks k None there is = cc

pub returns : goal.returns
returns c =
    let names = c.args.names.now in
    let name = c.args.name.now in
    ((λ is. found names name c.find.result c.find.ensures.there (sym c.is_some.ensures ∙ is)), (λ among. c.is_some.ensures ∙ (ap is_some c.find.ensures.number ∙ among_number names name among)))

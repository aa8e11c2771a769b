use Rattle.std.proofs.Common.{◌≡◌, ◌<◌, [], ◌∷◌, ◌++◌, true, false, length, take, refl, ap, sym, ◌∙◌, subst, rules}
use Rattle.std.proofs.lemmas.List.{take_more}
use Rattle.std.proofs.lemmas.Option.{slice_get_read}
use Rattle.carte_value.specs.Truths.{Among}
use Rattle.carte_mark.specs.Reached.{Meets}
use Rattle.carte_mark.proofs.Spreading.{meets_none, meets_more, meets_at}
use Rattle.carte_mark.proofs.set.meets.Goals as goal

pub loop-need-init : goal.loop-need-init
loop-need-init c = meets_none c.args.names.now

pub loop-need-preserved : goal.loop-need-preserved
loop-need-preserved c =
    let needs = c.as_slice-need-items.result.now in
    let at = c.loop-need.need-index in
    let below : at < length needs = search rules in
    let more = take_more needs at c.need-item.result below ∙ ap (λ x. take at needs ++ x ∷ []) (sym c.need-item.is) in
    let keys = c.args.names.now in
    let other : ¬ (Among keys c.need-item.result) = λ there. let e : false ≡ true = sym c.if-holds.false ∙ c.holds.ensures.1 there in cc in
    subst (λ ns. ¬ (Meets ns keys)) (sym more) (meets_more (take at needs) keys c.need-item.result c.loop-need.invariant other)

pub returns-then-holds : goal.returns-then-holds
returns-then-holds c =
    let needs = c.as_slice-need-items.result.now in
    let at = c.loop-need.need-index in
    let below : at < length needs = search rules in
    let here = slice_get_read needs (length needs) at c.need-item.result refl below c.need-item.is in
    let keys = c.args.names.now in
    let there = meets_at needs keys at c.need-item.result here (c.holds.ensures.0 c.if-holds.true) in
    ((λ is. subst (λ ns. Meets ns keys) c.as_slice-need-items.ensures there), (λ m. refl))

use Rattle.std.proofs.Common.{◌<◌, ◌≤◌, [], ◌∷◌, length, get_or, take, ap, sym, ◌∙◌, subst, rules}
use Rattle.std.proofs.lemmas.List.{take_more}
use Rattle.carte_record.specs.Kept.{kept_view}
use Rattle.carte_table.proofs.Fronts.{take_whole}
use Rattle.carte_mark.specs.Tables.{PutsUsers, names_at}
use Rattle.carte_mark.proofs.ByNumber.{names_on}
use Rattle.carte_mark.proofs.Walking.{puts_nothing, puts_further}
use Rattle.carte_mark.proofs.walk.put_those.Goals as goal

pub loop-number-init : goal.loop-number-init
loop-number-init c = puts_nothing (kept_view c.args.kept.now) c.args.reached.now

pub loop-number-preserved : goal.loop-number-preserved
loop-number-preserved c =
    let K = kept_view c.args.kept.now in
    let ks = c.args.users.now.names in
    let numbers = c.args.numbers.now in
    let at = c.loop-number.number-index in
    let below : at < length numbers = search rules in
    let number = get_or numbers at 0 in
    let more = take_more numbers at 0 below in
    let old = c.args.reached.now in
    let new = c.put_numbered.new.reached in
    let on = ap (names_at ks) more ∙ names_on ks (take at numbers) (number ∷ []) in
    subst (λ js. PutsUsers K js old new) (sym on)
    (puts_further K (names_at ks (take at numbers)) (names_at ks (number ∷ [])) old c.loop-number.reached new c.loop-number.invariant (c.in_ok-put_numbered.ensures {u = tt}))

pub returns : goal.returns
returns c =
    let numbers = c.args.numbers.now in
    let at = c.loop-number.number-index in
    let past : length numbers ≤ at = search rules in
    subst (λ ns. PutsUsers (kept_view c.args.kept.now) (names_at c.args.users.now.names ns) c.args.reached.now c.loop-number.reached) (take_whole at numbers past) c.loop-number.invariant

use Rattle.std.proofs.Common.{◌<◌, [], ◌∷◌, ◌++◌, length, take, ap, sym, ◌∙◌, subst, rules}
use Rattle.std.proofs.lemmas.List.{take_more}
use Rattle.carte_value.specs.Truths.{Among}
use Rattle.carte_mark.specs.Tables.{AddsFor, users_by}
use Rattle.carte_mark.proofs.Using.{adds_more}
use Rattle.carte_mark.proofs.users.add_all.Goals as goal

pub loop-name-preserved : goal.loop-name-preserved
loop-name-preserved c =
    let names = c.as_slice-name-items.result.now in
    let at = c.loop-name.name-index in
    let below : at < length names = search rules in
    let more = take_more names at c.name-item.result below ∙ ap (λ x. take at names ++ x ∷ []) (sym c.name-item.is) in
    let old = users_by c.args.users.now in
    let mid = users_by c.loop-name.users in
    let new = users_by c.add.new.self in
    subst (λ ns. AddsFor old new c.args.key.now (Among ns)) (sym more)
    (adds_more old mid new c.args.key.now c.name-item.result (take at names) c.loop-name.invariant (c.in_ok-add.ensures {u = tt}))

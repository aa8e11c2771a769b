use Rattle.std.proofs.Common.{◌<◌, ◌≤◌, [], ◌∷◌, ◌++◌, length, take, ap, sym, ◌∙◌, rules}
use Rattle.std.proofs.lemmas.List.{take_more}
use Rattle.carte_table.proofs.Fronts.{take_whole}
use Rattle.carte_note.specs.Right.{ran_in}
use Rattle.carte_engine.proofs.Running.{one_ran}
use Rattle.carte_engine.proofs.reckon.keys_that_ran.Goals as goal

pub loop-one-preserved : goal.loop-one-preserved
loop-one-preserved c =
    let fs = c.args.finished.now in
    let at = c.loop-one.one-index in
    let below : at < length fs = search rules in
    let more = take_more fs at c.one-item.result below ∙ ap (λ x. take at fs ++ x ∷ []) (sym c.one-item.is) in
    one_ran (take at fs) c.one-item.result c.loop-one.keys.items c.push_ran.new.keys.items c.loop-one.invariant (c.in_ok-push_ran.ensures {u = tt})
    ∙ ap ran_in (sym more)

pub returns : goal.returns
returns c =
    let fs = c.args.finished.now in
    let at = c.loop-one.one-index in
    let past : length fs ≤ at = search rules in
    c.loop-one.invariant ∙ ap ran_in (take_whole at fs past)

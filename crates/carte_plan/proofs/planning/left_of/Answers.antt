use Rattle.std.proofs.Common.{◌<◌, [], ◌∷◌, ◌++◌, length, take, ap, sym, ◌∙◌, rules, refl}
use Rattle.std.proofs.lemmas.List.{take_more}
use Rattle.carte_sound.specs.LeadsTo.{marks_left}
use Rattle.carte_note.specs.Right.{finishes_of}
use Rattle.carte_note.specs.Lists.{finished_of}
use Rattle.std.specs.Prelude.{is_none, not, ◌&&◌}
use Rattle.carte_record.specs.Folds.{is_among}
use Rattle.carte_plan.proofs.Lists.{left_more}
use Rattle.carte_plan.proofs.planning.left_of.Goals as goal

pub loop-mark-preserved : goal.loop-mark-preserved
loop-mark-preserved c =
    let marks = c.as_slice-mark-items.result.now in
    let at = c.loop-mark.mark-index in
    let below : at < length marks = search rules in
    let more = take_more marks at c.mark-item.result below ∙ ap (λ x. take at marks ++ x ∷ []) (sym c.mark-item.is) in
    let fs = take c.args.count c.args.finished.now in
    let gone = c.args.gone.now in
    (c.in_ok-add_left.ensures {u = tt})
    ∙ (left_more fs gone (take at marks) c.loop-mark.left c.mark-item.result (not (is_among gone c.mark-item.result) && is_none (finished_of fs c.mark-item.result)) refl c.loop-mark.invariant
    ∙ ap (λ ms. marks_left (finishes_of fs) (record { marks = ms; gone = gone })) (sym more))

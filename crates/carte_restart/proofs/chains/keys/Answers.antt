use Rattle.std.proofs.Common.{◌<◌, [], ◌∷◌, ◌++◌, length, take, ap, sym, ◌∙◌, rules}
use Rattle.std.proofs.lemmas.List.{take_more}
use Rattle.carte_note.specs.Right.{keys_in}
use Rattle.carte_progress.proofs.Listing.{keys_end}
use Rattle.carte_table.proofs.Fronts.{take_whole}
use Rattle.carte_restart.proofs.chains.keys.Goals as goal

pub loop-key-preserved : goal.loop-key-preserved
loop-key-preserved c =
    let fs = c.as_slice-key-items.result.now in
    let at = c.loop-key.key-index in
    let f = c.key-item.result in
    let below : at < length fs = search rules in
    let more = take_more fs at f below ∙ ap (λ x. take at fs ++ x ∷ []) (sym c.key-item.is) in
    let copied = (c.in_ok-copy.ensures {u = tt}) ∙ c.key.ensures in
    (c.in_ok-push.ensures {u = tt})
    ∙ (ap (λ ks. ks ++ c.in_ok-copy.field-0 ∷ []) c.loop-key.invariant
    ∙ (ap (λ k. keys_in (take at fs) ++ k ∷ []) copied
    ∙ (sym (keys_end (take at fs) f)
    ∙ ap keys_in (sym more))))

pub returns : goal.returns
returns c =
    let fs = c.as_slice-key-items.result.now in
    c.loop-key.invariant ∙ ap keys_in (take_whole c.loop-key.key-index fs c.loop-key-test.false ∙ c.as_slice-key-items.ensures)

use Rattle.std.proofs.Common.{◌<◌, ◌≤◌, [], ◌∷◌, ◌++◌, length, take, ap, sym, ◌∙◌, subst, rules}
use Rattle.std.proofs.lemmas.List.{take_more}
use Rattle.carte_record.specs.Kept.{kept_view}
use Rattle.carte_table.proofs.Fronts.{take_whole}
use Rattle.carte_restart.specs.Led.{AreNeeded}
use Rattle.carte_restart.proofs.Leading.{needed_none, needed_more}
use Rattle.carte_restart.proofs.first.needed.Goals as goal

pub loop-key-init : goal.loop-key-init
loop-key-init c = needed_none (kept_view c.args.kept.now) c.new-names.result c.new-names.ensures

pub loop-key-preserved : goal.loop-key-preserved
loop-key-preserved c =
    let K = kept_view c.args.kept.now in
    let keys = c.as_slice-key-items.result.now in
    let at = c.loop-key.key-index in
    let below : at < length keys = search rules in
    let more = take_more keys at c.key-item.result below ∙ ap (λ x. take at keys ++ x ∷ []) (sym c.key-item.is) in
    subst (λ ks. AreNeeded K ks c.put_needs.new.names) (sym more)
    (subst (AreNeeded K (take at keys ++ c.key-item.result ∷ [])) (sym (c.in_ok-put_needs.ensures {u = tt})) (needed_more K (take at keys) c.loop-key.names c.key-item.result c.loop-key.invariant))

pub returns : goal.returns
returns c =
    let keys = c.as_slice-key-items.result.now in
    let past : length keys ≤ c.loop-key.key-index = search rules in
    subst (λ ks. AreNeeded (kept_view c.args.kept.now) ks c.loop-key.names) (take_whole c.loop-key.key-index keys past ∙ c.as_slice-key-items.ensures) c.loop-key.invariant

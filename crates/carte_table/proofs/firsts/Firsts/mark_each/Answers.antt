use Rattle.std.proofs.Common.{◌<◌, [], ◌∷◌, ◌++◌, length, take, ap, sym, ◌∙◌, rules}
use Rattle.std.proofs.lemmas.List.{take_more}
use Rattle.carte_table.specs.Changes.{all_changed, change_first}
use Rattle.carte_table.specs.Lookups.{has_key}
use Rattle.carte_table.proofs.Changed.{changed_end}
use Rattle.carte_table.proofs.firsts.Firsts.mark_each.Goals as goal

pub loop-key-preserved : goal.loop-key-preserved
loop-key-preserved g c =
    let has = has_key g.T.Keyed.key_of in
    let mark = g.T.Marked.marked c.args.is_marked in
    let keys = c.as_slice-key-items.result.now in
    let at = c.loop-key.key-index in
    let below : at < length keys = search rules in
    let more = take_more keys at c.key-item.result below ∙ ap (λ j. take at keys ++ j ∷ []) (sym c.key-item.is) in
    c.mark.ensures
    ∙ (ap (change_first (has c.key-item.result) mark) c.loop-key.invariant
    ∙ (sym (changed_end has mark c.args.self.now (take at keys) c.key-item.result)
    ∙ ap (all_changed has mark c.args.self.now) (sym more)))

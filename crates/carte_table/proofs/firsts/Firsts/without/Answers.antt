use Rattle.std.proofs.Common.{◌≡◌, ◌<◌, ◌+◌, [], ◌∷◌, ◌++◌, length, take, ap, subst, sym, ◌∙◌, rules}
use Rattle.std.specs.Prelude.{filter, if◌then◌else◌}
use Rattle.carte_table.specs.Changes.{is_of_none}
use Rattle.carte_table.proofs.Changed.{filter_more}
use Rattle.carte_table.proofs.firsts.Firsts.without.Goals as goal

pub loop-item-preserved : goal.loop-item-preserved
loop-item-preserved g c =
    let keep = is_of_none g.T.Keyed.key_of c.args.gone.now in
    let items = c.deref-item-items.result.now in
    let at = c.loop-item.item-index in
    let item = c.item-item.result in
    let same : items ≡ c.args.self.now = c.deref-item-items.ensures.value ∙ c.self.view_is in
    let below : at < length items = search rules in
    c.in_ok-push_unless.ensures {u = tt}
    ∙ (ap (λ left. if keep item then left ++ item ∷ [] else left) c.loop-item.invariant
    ∙ sym (subst (λ xs. filter keep (take (at + 1) xs) ≡ (if keep item then filter keep (take at xs) ++ item ∷ [] else filter keep (take at xs))) same (filter_more keep items at item below c.item-item.is)))

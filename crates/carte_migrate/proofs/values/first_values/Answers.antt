use Rattle.std.proofs.Common.{◌<◌, ◌≤◌, length, map, take, ap, sym, ◌∙◌, subst, rules}
use Rattle.carte_value.specs.Spelling.{digest_of}
use Rattle.carte_table.specs.Lookups.{first_value}
use Rattle.carte_table.proofs.Fronts.{take_whole}
use Rattle.carte_record.proofs.Links.{item_more}
use Rattle.carte_sound.specs.Lists.{EachOnce}
use Rattle.carte_migrate.proofs.Firsts.{first_more, once_more}
use Rattle.carte_migrate.proofs.values.first_values.Goals as goal

pub loop-value-preserved : goal.loop-value-preserved
loop-value-preserved c =
    let values = c.as_slice-value-items.result.now in
    let at = c.loop-value.value-index in
    let v = c.value-item.result in
    let below : at < length values = search rules in
    let put = c.in_ok-put.ensures {u = tt} in
    let before = c.loop-value.invariant in
    record {
      first = λ d. ap (λ vs. first_value vs d) put ∙ first_more c.loop-value.list (take at values) v before.first d ∙ ap (λ vs. first_value vs d) (sym (item_more values at v below c.value-item.is));
      once = subst (λ vs. EachOnce (map digest_of vs)) (sym put) (once_more c.loop-value.list v before.once);
    }

pub returns-clause-first : goal.returns-clause-first
returns-clause-first c d =
    let values = c.as_slice-value-items.result.now in
    let past : length values ≤ c.loop-value.value-index = search rules in
    c.loop-value.invariant.first d ∙ ap (λ vs. first_value vs d) (take_whole c.loop-value.value-index values past ∙ c.as_slice-value-items.ensures)

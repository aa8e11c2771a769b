use Rattle.std.proofs.Common.{◌+◌, ◌<◌, length, take, ap, sym, ◌∙◌, rules}
use Rattle.std.specs.Prelude.{◌||◌}
use Rattle.carte_table.specs.Lookups.{digest_eq}
use Rattle.carte_record.proofs.Links.{item_more}
use Rattle.carte_trim.specs.Lists.{in_those}
use Rattle.carte_trim.proofs.Steps.{any_end, or_assoc, those_same}
use Rattle.carte_trim.proofs.named.put_each.Goals as goal

pub loop-item-preserved : goal.loop-item-preserved
loop-item-preserved g c before has =
    let of = g.T.Naming.digest_of in
    let items = c.args.items.now in
    let at = c.loop-item.item-index in
    let item = c.item-item.result in
    let below : at < length items = search rules in
    let more = (c.in_ok-put.ensures {u = tt}) (λ d. before d || in_those of (take at items) d) (c.loop-item.invariant before has) in
    those_same c.args.all.now c.put.new.list
    (λ d. (before d || in_those of (take at items) d) || digest_eq d c.digest.result) (λ d. before d || in_those of (take (at + 1) items) d)
    (λ d. ap (λ e. (before d || in_those of (take at items) d) || digest_eq d e) c.digest.ensures
    ∙ (or_assoc (before d) (in_those of (take at items) d) (digest_eq d (of item))
    ∙ ap (λ b. before d || b)
    (sym (ap (λ xs. in_those of xs d) (item_more items at item below c.item-item.is) ∙ any_end (λ x. digest_eq d (of x)) (take at items) item))))
    more

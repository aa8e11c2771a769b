use Rattle.std.proofs.Common.{◌<◌, [], ◌++◌, length, take, ap, sym, ◌∙◌, rules}
use Rattle.carte_compact.specs.Live.{found_at, link_at, put}
use Rattle.carte_compact.proofs.Found.{found_more}
use Rattle.carte_record.proofs.Links.{item_more}
use Rattle.carte_compact.proofs.entries.links_at.Goals as goal

pub loop-name-preserved : goal.loop-name-preserved
loop-name-preserved c =
    let names = c.args.names.now in
    let at = c.loop-name.name-index in
    let name = c.name-item.result in
    let below : at < length names = search rules in
    let f = link_at c.args.seen.now in
    (c.in_ok-put_link.ensures {u = tt}) ∙ ap (λ ls. ls ++ put (f name) []) c.loop-name.invariant ∙ sym (found_more f (take at names) name) ∙ ap (found_at f) (sym (item_more names at name below c.name-item.is))

use Rattle.std.proofs.Common.{◌≡◌, ◌+◌, ◌<◌, [], length, take, ap, sym, ◌∙◌, rules}
use Rattle.std.specs.List.{flat_map}
use Rattle.carte_codec.specs.Parts.{spelled_link}
use Rattle.carte_compact.specs.Live.{found_at, link_at, put}
use Rattle.carte_record.proofs.Links.{item_more}
use Rattle.carte_compact.proofs.Sizes.{found_longer}
use Rattle.carte_compact.proofs.lengths.links_length.Goals as goal

pub loop-name-preserved : goal.loop-name-preserved
loop-name-preserved c =
    let names = c.args.names.now in
    let at = c.loop-name.name-index in
    let name = c.name-item.result in
    let below : at < length names = search rules in
    let f = link_at c.args.seen.now in
    let sum : c.in_ok-sum.sum ≡ c.loop-name.sum + length (flat_map spelled_link (put (f name) [])) = search rules in
    sum ∙ ap (λ n. n + length (flat_map spelled_link (put (f name) []))) c.loop-name.invariant ∙ sym (found_longer spelled_link f (take at names) name)
    ∙ ap (λ ks. length (flat_map spelled_link (found_at f ks))) (sym (item_more names at name below c.name-item.is))

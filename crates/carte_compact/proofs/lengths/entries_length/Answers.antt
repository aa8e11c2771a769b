use Rattle.std.proofs.Common.{◌≡◌, ◌+◌, ◌<◌, [], length, take, ap, sym, ◌∙◌, rules}
use Rattle.std.specs.List.{flat_map}
use Rattle.carte_record.specs.Bodies.{spelled_entry}
use Rattle.carte_compact.specs.Live.{found_at, entry_at, put}
use Rattle.carte_record.proofs.Links.{item_more}
use Rattle.carte_compact.proofs.Sizes.{found_longer}
use Rattle.carte_compact.proofs.lengths.entries_length.Goals as goal

pub loop-key-preserved : goal.loop-key-preserved
loop-key-preserved c =
    let keys = c.args.keys.now in
    let at = c.loop-key.key-index in
    let key = c.key-item.result in
    let below : at < length keys = search rules in
    let f = entry_at c.args.entries.now in
    let sum : c.in_ok-sum.sum ≡ c.loop-key.sum + length (flat_map spelled_entry (put (f key) [])) = search rules in
    sum ∙ ap (λ n. n + length (flat_map spelled_entry (put (f key) []))) c.loop-key.invariant ∙ sym (found_longer spelled_entry f (take at keys) key)
    ∙ ap (λ ks. length (flat_map spelled_entry (found_at f ks))) (sym (item_more keys at key below c.key-item.is))

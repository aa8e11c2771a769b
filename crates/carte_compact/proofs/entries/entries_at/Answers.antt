use Rattle.std.proofs.Common.{◌<◌, [], ◌++◌, length, take, ap, sym, ◌∙◌, rules}
use Rattle.carte_compact.specs.Live.{entry_at, found_at, put}
use Rattle.carte_compact.proofs.Found.{found_more}
use Rattle.carte_record.proofs.Links.{item_more}
use Rattle.carte_compact.proofs.entries.entries_at.Goals as goal

pub loop-key-preserved : goal.loop-key-preserved
loop-key-preserved c =
    let keys = c.args.keys.now in
    let at = c.loop-key.key-index in
    let key = c.key-item.result in
    let below : at < length keys = search rules in
    let f = entry_at c.args.entries.now in
    (c.in_ok-put_entry.ensures {u = tt}) ∙ ap (λ es. es ++ put (f key) []) c.loop-key.invariant ∙ sym (found_more f (take at keys) key) ∙ ap (found_at f) (sym (item_more keys at key below c.key-item.is))

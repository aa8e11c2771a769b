use Rattle.std.proofs.Common.{◌≡◌, ◌<◌, vec_len, true, false, sym, ◌∙◌, rules}
use Rattle.carte_table.proofs.Changed.{put_at_place, change_none}
use Rattle.carte_table.proofs.FirstPlaces.{place_below}
use Rattle.carte_table.proofs.table.set.Goals as goal

pub returns-in-Some-get_mut : goal.returns-in-Some-get_mut
returns-in-Some-get_mut g c p is = sym (put_at_place p c.args.item c.args.items.now.items c.in-Some.at (sym is ∙ c.in-Some.is))

pub returns-in_default-get_mut : goal.returns-in_default-get_mut
returns-in_default-get_mut g c p is =
    let within = place_below p c.args.items.now.items c.in-Some.at (sym is ∙ c.in-Some.is) in
    let below : c.in-Some.at < vec_len c.args.items.now = search rules in
    let there : false ≡ true = (c.in_default-get_mut.ensures {u = tt}).variant.1 below in cc

pub returns-in_default : goal.returns-in_default
returns-in_default g c p is = sym (change_none p (λ x. c.args.item) c.args.items.now.items (sym is ∙ c.in_default.is))

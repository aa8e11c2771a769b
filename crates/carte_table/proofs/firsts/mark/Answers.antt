use Rattle.std.proofs.Common.{◌≡◌, ◌<◌, length, vec_len, true, false, sym, ◌∙◌, refl, rules}
use Rattle.std.proofs.lemmas.Option.{slice_get_read}
use Rattle.carte_table.proofs.Changed.{change_at, change_none}
use Rattle.carte_table.proofs.FirstPlaces.{place_below}
use Rattle.carte_table.proofs.firsts.mark.Goals as goal

pub returns-in-Some-get_mut : goal.returns-in-Some-get_mut
returns-in-Some-get_mut g c p is =
    let items = c.args.items.now.items in
    let at = sym is ∙ c.in-Some.is in
    let here = slice_get_read items (length items) c.in-Some.at c.in-Some-get_mut.item.now refl (place_below p items c.in-Some.at at) (c.in-Some-get_mut.ensures {u = tt}).value in
    rw c.mark.ensures (sym (change_at p (g.T.Marked.marked c.args.is_marked) items c.in-Some.at c.in-Some-get_mut.item.now at here))

pub returns-in_default-get_mut : goal.returns-in_default-get_mut
returns-in_default-get_mut g c p is =
    let within = place_below p c.args.items.now.items c.in-Some.at (sym is ∙ c.in-Some.is) in
    let below : c.in-Some.at < vec_len c.args.items.now = search rules in
    let there : false ≡ true = (c.in_default-get_mut.ensures {u = tt}).variant.1 below in cc

pub returns-in_default : goal.returns-in_default
returns-in_default g c p is = sym (change_none p (g.T.Marked.marked c.args.is_marked) c.args.items.now.items (sym is ∙ c.in_default.is))

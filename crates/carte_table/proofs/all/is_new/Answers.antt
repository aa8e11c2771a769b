use Rattle.std.proofs.Common.{◌≡◌, ◌≤◌, ◌∙◌, ap, sym, length, take, rules}
use Rattle.std.specs.List.{list_any}
use Rattle.carte_table.specs.Latest.{stands_at}
use Rattle.carte_table.proofs.Latest.{at_places}
use Rattle.carte_table.proofs.Fronts.{take_whole}
use Rattle.carte_table.proofs.all.is_new.Goals as goal

pub returns : goal.returns
returns g c one are =
    let end : length c.args.at.now ≤ c.loop-place.place-index = search rules in
    let all : take c.loop-place.place-index c.args.at.now ≡ c.args.at.now = take_whole c.loop-place.place-index c.args.at.now end in
    let stands = stands_at g.T.Compared.alike c.args.item.now c.args.items.now in
    sym (at_places g.T.Compared.alike g.met.T.Compared.alike_is g.T.Keyed.key_of c.args.item.now c.args.items.now) ∙ ap (list_any stands) (sym are ∙ sym all) ∙ c.loop-place.invariant

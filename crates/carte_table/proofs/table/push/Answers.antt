use Rattle.std.proofs.Common.{◌≡◌, length, rules}
use Rattle.std.specs.HashMap.{get}
use Rattle.carte_table.proofs.FirstPlaces.{place_added}
use Rattle.carte_table.proofs.table.push.Goals as goal

pub returns-clause-table : goal.returns-clause-table
returns-clause-table g c is_of same is k =
    let end : c.in_ok-at.at ≡ length c.args.items.now.items = search rules in
    rw (c.push_reserved.ensures.items, c.next_place.ensures.items) (place_added g.K.PartialEq.eq is_of c.args.items.now.items c.args.item c.args.key (get g.K.PartialEq.eq c.args.table.now) (get g.K.PartialEq.eq c.add.new.table) c.in_ok-at.at end same is (c.in_ok-add.ensures {u = tt}).ok k)

use Rattle.carte_mark.proofs.Listing.{IsInOrder}
use Rattle.carte_engine.proofs.Sorting.{sorted_is}
use Rattle.carte_engine.proofs.ran.in_order.Goals as goal

pub returns : goal.returns
returns c =
    let keys = c.args.keys.items in
    let sorted = c.sort_unstable.new.self.items in
    let once = c.dedup.new.self.items in
    let order : IsInOrder keys sorted once = record { permutation = c.sort_unstable.ensures.permutation; rising = c.sort_unstable.ensures.sorted; once = c.dedup.ensures.filtered } in
    sorted_is keys sorted once order

use Rattle.carte_codec.proofs.Lists.{items_fail}
use Rattle.carte_codec.proofs.list.read_items.Goals as goal

pub returns-in-Err : goal.returns-in-Err
returns-in-Err g c =
    let so_far = c.loop-at.invariant in
    items_fail g.L.ListOf.items g.T.Spelled.spelling g.T.Spelled.fits c.args.count (g.L.ListOf.items c.loop-at.list) c.args.bytes.now c.loop-at.rest.now c.in-Err.unread g.met.T.Spelled.one_spelling (rw so_far.many c.loop-at-test.true) so_far.fit so_far.so_far c.in-Err.ensures

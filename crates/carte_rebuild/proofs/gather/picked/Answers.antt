use Rattle.carte_book.specs.Book.{book_view}
use Rattle.carte_rebuild.proofs.Gathered.{picked_more}
use Rattle.carte_rebuild.proofs.gather.picked.Goals as goal

pub loop-link-preserved : goal.loop-link-preserved
loop-link-preserved c =
    picked_more c.args.role (book_view c.args.book.now) c.as_slice-link-items.result.now c.loop-link.link-index c.link-item.result c.loop-link.some c.pick.new.some c.loop-link-test.true c.link-item.is c.loop-link.invariant (c.in_ok-pick.ensures {u = tt})

use Rattle.carte_book.specs.Book.{book_view}
use Rattle.carte_rebuild.proofs.Gathered.{brought_more}
use Rattle.carte_rebuild.proofs.gather.put_all.Goals as goal

pub loop-link-preserved : goal.loop-link-preserved
loop-link-preserved c =
    brought_more c.args.role (book_view c.args.book.now) c.args.before.now c.as_slice-link-items.result.now c.loop-link.link-index c.link-item.result c.args.gathered.now.entries c.loop-link.gathered.entries c.put_brought.new.gathered.entries c.loop-link-test.true c.link-item.is c.loop-link.invariant (c.in_ok-put_brought.ensures {u = tt})

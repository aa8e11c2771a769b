use Rattle.carte_book.specs.Book.{book_view}
use Rattle.carte_mark.specs.Bases.{beginning_of}
use Rattle.carte_record.specs.Kept.{kept_view}
use Rattle.carte_engine.proofs.Planning.{chained_batches, plain_batches}
use Rattle.carte_engine.proofs.planned.batches_of.Goals as goal

pub returns-in-Some-clause-brings : goal.returns-in-Some-clause-brings
returns-in-Some-clause-brings g c K begins =
    let h = g.R.Rebuilder.how c.args.rebuilder.now in
    let M = kept_view c.args.base.now in
    let b = book_view c.args.book.now in
    chained_batches c.plan_parts_chained.result (λ all. all.items) h K M b (beginning_of c.args.begun.now) c.args.work.now c.in-Some.chain c.in-Some.is (λ targets new built. c.plan_parts_chained.ensures.restarting K targets begins built new)

pub returns-in-None-clause-brings : goal.returns-in-None-clause-brings
returns-in-None-clause-brings g c K begins =
    let h = g.R.Rebuilder.how c.args.rebuilder.now in
    let M = kept_view c.args.base.now in
    let b = book_view c.args.book.now in
    plain_batches c.plan_parts.result (λ all. all.items) h K M b (beginning_of c.args.begun.now) c.args.work.now c.in-None.is (c.plan_parts.ensures.plans K begins)

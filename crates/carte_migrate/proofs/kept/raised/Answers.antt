use Rattle.carte_book.specs.Book.{book_view}
use Rattle.carte_migrate.proofs.Raising.{kept_raised, tasks_known}
use Rattle.carte_migrate.proofs.kept.raised.Goals as goal

pub raised_traces-requires : goal.raised_traces-requires
raised_traces-requires c = tasks_known (book_view c.args.book.now) c.args.old.now.entries c.in_ok-entries.entries (c.in_ok-entries.ensures {u = tt})

pub raised_traces-requires-2 : goal.raised_traces-requires-2
raised_traces-requires-2 c = tasks_known (book_view c.args.book.now) c.args.old.now.entries c.in_ok-entries.entries (c.in_ok-entries.ensures {u = tt})

pub returns-clause-view : goal.returns-clause-view
returns-clause-view c =
    let rest = c.in_ok-rest.ensures {u = tt} in
    kept_raised (book_view c.args.book.now) c.args.old.now _ rest.seen (c.in_ok-entries.ensures {u = tt})
    (c.in_ok-verifying.ensures {u = tt}) (c.in_ok-constructive.ensures {u = tt}) c.new.ensures rest.chain rest.first

use Rattle.carte_book.specs.Book.{book_view}
use Rattle.carte_bench.specs.Held.{spots_of}
use Rattle.carte_progress.proofs.Opened.{fresh_stop}
use Rattle.carte_progress.proofs.opening.open_stop.Goals as goal

pub open_if-requires-clause-fresh : goal.open_if-requires-clause-fresh
open_if-requires-clause-fresh g c κs within = fresh_stop (book_view c.args.book.now) (spots_of c.args.bench.now) c.args.stuck c.in-NotDone.name c.in_ok-fresh-in-NotDone.fresh c.requires.stop c.in-NotDone.is c.in_ok-fresh-in-NotDone.ensures

use Rattle.carte_book.specs.Book.{book_view}
use Rattle.carte_bench.specs.Held.{spots_of}
use Rattle.carte_progress.proofs.Opened.{fresh_told}
use Rattle.carte_progress.proofs.opening.is_fresh.Goals as goal

pub returns-in-Rule : goal.returns-in-Rule
returns-in-Rule g c = fresh_told (book_view c.args.book.now) (spots_of c.args.bench.now) c.args.name.now c.is_unknown.result (_, c.in-Rule.ensures.answer) c.is_unknown.ensures

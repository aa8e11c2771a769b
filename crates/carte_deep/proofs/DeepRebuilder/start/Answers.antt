use Rattle.carte_book.specs.Book.{book_view}
use Rattle.carte_record.specs.Kept.{kept_view}
use Rattle.carte_deep.proofs.Begun.{begun_name}
use Rattle.carte_deep.proofs.DeepRebuilder.start.Goals as goal

pub returns-clause-name : goal.returns-clause-name
returns-clause-name c = begun_name (kept_view c.args.kept.now) (book_view c.args.book.now) c.args.key.now c.in_ok-earlier.earlier c.of.result (c.in_ok-earlier.ensures {u = tt}) c.of.ensures.start

use Rattle.std.proofs.lemmas.Result.{IfOk-weaker}
use Rattle.carte_book.specs.Book.{book_view}
use Rattle.carte_construct.proofs.Tried.{all_tried}
use Rattle.carte_construct.proofs.kept_checks.Goals as goal

pub returns : goal.returns
returns c = IfOk-weaker c.checks_of.result _ _ (λ cs is. all_tried c.args.kept.now (book_view c.args.book.now) c.args.key.now cs is) c.checks_of.ensures

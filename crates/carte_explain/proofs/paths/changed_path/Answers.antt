use Rattle.carte_book.specs.Book.{book_view}
use Rattle.carte_explain.proofs.Noding.{has_nodes}
use Rattle.carte_explain.proofs.paths.changed_path.Goals as goal

pub first_path-requires : goal.first_path-requires
first_path-requires c = has_nodes c.args.kept.now (book_view c.args.book.now) c.in_ok-nodes.nodes c.in_ok-nodes.ensures

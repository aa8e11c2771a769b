use Rattle.std.proofs.lemmas.Result.{IfOk-weaker}
use Rattle.carte_book.specs.Book.{book_view}
use Rattle.carte_topo.proofs.Dynamic.{has_nodes, answer}
use Rattle.carte_topo.proofs.dynamic_paths.dynamic_path.Goals as goal

pub first_path-requires : goal.first_path-requires
first_path-requires c = has_nodes (book_view c.args.book.now) c.in_ok-nodes.nodes c.in_ok-nodes.ensures

pub returns : goal.returns
returns c = IfOk-weaker c.first_path.result _ _ (answer (book_view c.args.book.now) c.args.targets.now) c.first_path.ensures

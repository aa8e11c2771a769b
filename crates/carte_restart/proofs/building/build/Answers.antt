use Rattle.carte_book.specs.Book.{book_view}
use Rattle.carte_record.specs.Kept.{kept_view}
use Rattle.carte_progress.proofs.Answered.{if_ok_by}
use Rattle.carte_restart.proofs.Restarted.{restarted}
use Rattle.carte_restart.proofs.building.build.Goals as goal

pub returns-clause-ends : goal.returns-clause-ends
returns-clause-ends g c = if_ok_by c.build_from.result (λ end ends. restarted (g.R.Rebuilder.how c.args.rebuilder.now) (kept_view c.args.kept.now) (book_view c.args.book.now) c.args.targets.now c.in_ok-list.list (c.in_ok-list.ensures {u = tt}) end ends) c.build_from.ensures.ends

pub returns-clause-turns : goal.returns-clause-turns
returns-clause-turns g c = if_ok_by c.build_from.result (λ end turns. record { list = c.in_ok-list.list; first = c.in_ok-list.ensures {u = tt}; turns = turns }) c.build_from.ensures.turns

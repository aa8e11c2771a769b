use Rattle.std.proofs.Common.{None}
use Rattle.carte_book.specs.Book.{book_view}
use Rattle.carte_record.specs.Kept.{kept_view}
use Rattle.carte_engine.proofs.Shown.{shown_over}
use Rattle.carte_engine.proofs.planned.plan_over.Goals as goal

pub returns-clause-plans : goal.returns-clause-plans
returns-clause-plans g c K begins H sound distinct = c.planned.ensures.plans c.args.scheduler K begins c.in_ok-end.ensures.ends H sound distinct

pub returns-clause-shows : goal.returns-clause-shows
returns-clause-shows g c K begins =
    let b = book_view c.args.book.now in
    shown_over g.R.Job.Job.name g.R.Job.Job.started g.R.Job.Job.gives (λ M k j. g.R.Rebuilder.begun c.args.rebuilder.now M b (λ q. None) k j) (g.R.Rebuilder.how c.args.rebuilder.now) b c.args.targets.now
    c.args.scheduler c.args.workers K c.args.begun.now (kept_view c.args.base.now) begins c.in_ok-end.end c.in_ok-end.ensures c.planned.result c.planned.ensures.shows

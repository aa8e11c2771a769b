use Rattle.std.proofs.Common.{◌∙◌}
use Rattle.carte_journal.proofs.Commits.{begin_stays, rest_stays}
use Rattle.carte_journal.proofs.writes.begin.Goals as goal

pub returns-then-fresh-clause-any_moment : goal.returns-then-fresh-clause-any_moment
returns-then-fresh-clause-any_moment g c told j bodies rest fresh =
    let s = g.D.Disk.story c.args.disk.now in
    rw c.if-fresh.true (begin_stays j bodies s rest _ (fresh ∙ c.if-fresh.true) (c.write_start.ensures.any_moment told rest.settled))

pub returns-clause-any_moment : goal.returns-clause-any_moment
returns-clause-any_moment g c told j bodies rest fresh = rw c.if-fresh.false (rest_stays j bodies (g.D.Disk.story c.args.disk.now) rest)

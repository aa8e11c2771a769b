use Rattle.std.proofs.Common.{Some}
use Rattle.std.proofs.lemmas.Result.{on_ok_weaker}
use Rattle.carte_journal.proofs.Rewritings.{close_ready, close_stays, ready_stays}
use Rattle.carte_journal.proofs.rewrite.close_other.Goals as goal

pub returns-then-roots-clause-ok : goal.returns-then-roots-clause-ok
returns-then-roots-clause-ok g c told limit gate bodies ready =
    on_ok_weaker c.close_gate.result
    (close_ready limit gate c.args.roots bodies (g.D.Disk.story c.args.disk.now) ready c.other.result _ c.other.ensures c.if-roots.true) (c.close_gate.ensures.ok told)

pub returns-then-roots-clause-any_moment : goal.returns-then-roots-clause-any_moment
returns-then-roots-clause-any_moment g c told limit gate bodies ready =
    rw c.if-roots.true
    (close_stays limit gate c.args.roots bodies (g.D.Disk.story c.args.disk.now) ready c.other.result _ c.other.ensures c.if-roots.true
    (c.close_gate.ensures.any_moment told ready.settled))

pub returns-clause-any_moment : goal.returns-clause-any_moment
returns-clause-any_moment g c told limit gate bodies ready =
    rw c.if-roots.false (ready_stays limit gate (Some c.args.roots) bodies (g.D.Disk.story c.args.disk.now) ready)

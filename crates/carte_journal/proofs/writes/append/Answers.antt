use Rattle.std.proofs.Common.{◌+◌, arith, cond, subst}
use Rattle.carte_io.specs.Disk.{Throughout}
use Rattle.carte_journal.specs.Ready.{AddsBody, IsReadyAt}
use Rattle.carte_journal.proofs.Commits.{begin_adds, begin_then, calls_sum, some_calls}
use Rattle.carte_journal.proofs.writes.append.Goals as goal

pub returns-in_err-begin-clause-any_moment : goal.returns-in_err-begin-clause-any_moment
returns-in_err-begin-clause-any_moment g c told j bodies rest fresh gate fits =
    begin_adds j bodies c.args.frame.now c.args.gate _ _ _ _ gate (omega (arith, some_calls c.args.fresh)) (c.begin.ensures.any_moment told j bodies rest fresh)

pub returns-clause-ok : goal.returns-clause-ok
returns-clause-ok g c told j bodies rest fresh gate fits =
    c.put_frame.ensures.ok told j.limit j.bank bodies
    (subst (λ n. IsReadyAt j.limit j.bank n bodies (g.D.Disk.story c.begin.new.disk)) gate (c.in_ok-begin.ensures.ok told j bodies rest fresh)) fits

pub returns-clause-any_moment : goal.returns-clause-any_moment
returns-clause-any_moment g c told j bodies rest fresh gate fits =
    let s = g.D.Disk.story c.args.disk.now in
    let mid = g.D.Disk.story c.begin.new.disk in
    let new = g.D.Disk.story c.put_frame.new.disk in
    begin_then j bodies c.args.frame.now c.args.gate (s.now.passed + cond c.args.fresh 6 4) _ s mid new gate (omega (arith, some_calls c.args.fresh))
    (c.begin.ensures.any_moment told j bodies rest fresh)
    (subst (λ n. Throughout mid new (AddsBody j.limit c.args.gate bodies c.args.frame.now n))
    (omega (arith, c.in_ok-begin.ensures.calls told, calls_sum c.args.fresh s.now.passed))
    (c.put_frame.ensures.any_moment told j.limit j.bank bodies
    (subst (λ n. IsReadyAt j.limit j.bank n bodies mid) gate (c.in_ok-begin.ensures.ok told j bodies rest fresh)) fits))

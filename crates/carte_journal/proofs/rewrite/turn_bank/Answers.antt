use Rattle.carte_journal.specs.Regions.{gate_of, placed_at}
use Rattle.carte_journal.proofs.Rewritings.{bank_turns, closed_turns, open_done, staged_turns}
use Rattle.carte_journal.proofs.rewrite.turn_bank.Goals as goal

pub returns-in_err-close_other-clause-any_moment : goal.returns-in_err-close_other-clause-any_moment
returns-in_err-close_other-clause-any_moment g c told limit bodies new ready is fits =
    let p = c.args.region.now in
    closed_turns limit p c.args.roots bodies (placed_at p.at new) (gate_of p.at new) (g.D.Disk.story c.args.disk.now) _
    (c.close_other.ensures.any_moment told limit p.gate bodies ready)

pub returns-in_err-stage-clause-any_moment : goal.returns-in_err-stage-clause-any_moment
returns-in_err-stage-clause-any_moment g c told limit bodies new ready is fits =
    let p = c.args.region.now in
    staged_turns limit p c.args.roots bodies (placed_at p.at new) (gate_of p.at new) (g.D.Disk.story c.args.disk.now) _
    (c.close_other.ensures.any_moment told limit p.gate bodies ready) (c.in_ok-close_other.ensures.calls told) _
    (c.stage.ensures.any_moment told limit bodies new (c.in_ok-close_other.ensures.ok told limit p.gate bodies ready) is fits)

pub returns-in_err-open_gate-clause-any_moment : goal.returns-in_err-open_gate-clause-any_moment
returns-in_err-open_gate-clause-any_moment g c told limit bodies new ready is fits =
    let p = c.args.region.now in
    let shut = c.in_ok-close_other.ensures.ok told limit p.gate bodies ready in
    let staged = c.in_ok-stage.ensures.ok told limit bodies new shut is fits in
    bank_turns limit p c.args.roots bodies (placed_at p.at new) (gate_of p.at new) (g.D.Disk.story c.args.disk.now) _
    (c.close_other.ensures.any_moment told limit p.gate bodies ready) (c.in_ok-close_other.ensures.calls told) (g.D.Disk.story c.stage.new.disk)
    (c.stage.ensures.any_moment told limit bodies new shut is fits) c.other.result _ (c.in_ok-stage.ensures.calls told) staged c.other.ensures
    (c.open_gate.ensures.any_moment told staged.settled)

pub returns-clause-ok : goal.returns-clause-ok
returns-clause-ok g c told limit bodies new ready is fits =
    let p = c.args.region.now in
    open_done limit p.gate p.at (gate_of p.at new) c.args.roots bodies (placed_at p.at new) (g.D.Disk.story c.stage.new.disk)
    (c.in_ok-stage.ensures.ok told limit bodies new (c.in_ok-close_other.ensures.ok told limit p.gate bodies ready) is fits)
    c.other.result (g.D.Disk.story c.open_gate.new.disk) c.other.ensures (c.in_ok-open_gate.ensures.ok told)

pub returns-clause-any_moment : goal.returns-clause-any_moment
returns-clause-any_moment g c told limit bodies new ready is fits =
    let p = c.args.region.now in
    let shut = c.in_ok-close_other.ensures.ok told limit p.gate bodies ready in
    let staged = c.in_ok-stage.ensures.ok told limit bodies new shut is fits in
    bank_turns limit p c.args.roots bodies (placed_at p.at new) (gate_of p.at new) (g.D.Disk.story c.args.disk.now) _
    (c.close_other.ensures.any_moment told limit p.gate bodies ready) (c.in_ok-close_other.ensures.calls told) (g.D.Disk.story c.stage.new.disk)
    (c.stage.ensures.any_moment told limit bodies new shut is fits) c.other.result _ (c.in_ok-stage.ensures.calls told) staged c.other.ensures
    (c.open_gate.ensures.any_moment told staged.settled)

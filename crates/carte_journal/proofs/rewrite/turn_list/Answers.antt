use Rattle.std.proofs.Common.{◌+◌, ap}
use Rattle.carte_journal.proofs.Rewritings.{list_begins, list_done, list_settled, list_turns}
use Rattle.carte_journal.proofs.rewrite.turn_list.Goals as goal

pub returns-in_err-write_through-clause-any_moment : goal.returns-in_err-write_through-clause-any_moment
returns-in_err-write_through-clause-any_moment g c told limit bodies new ready is fits =
    list_begins limit c.args.region.now bodies new (g.D.Disk.story c.args.disk.now) ready (c.gate.result + 1) c.piece.result.now _
    (ap (λ n. n + 1) c.gate.ensures.gate) (c.write_through.ensures.any_moment told ready.settled)

pub returns-in_err-open_gate-clause-any_moment : goal.returns-in_err-open_gate-clause-any_moment
returns-in_err-open_gate-clause-any_moment g c told limit bodies new ready is fits =
    let p = c.args.region.now in
    let s = g.D.Disk.story c.args.disk.now in
    let u = g.D.Disk.story c.write_through.new.disk in
    let at_is = ap (λ n. n + 1) c.gate.ensures.gate in
    let staged = c.in_ok-write_through.ensures.ok told in
    list_turns limit p bodies new s ready c.requires is fits (c.gate.result + 1) c.piece.result.now u at_is c.piece.ensures staged
    c.gate-2.result _ c.gate-2.ensures.gate (c.write_through.ensures.any_moment told ready.settled)
    (c.open_gate.ensures.any_moment told (list_settled limit p bodies new s ready c.requires is fits (c.gate.result + 1) c.piece.result.now u at_is c.piece.ensures staged))

pub returns-clause-ok : goal.returns-clause-ok
returns-clause-ok g c told limit bodies new ready is fits =
    list_done limit c.args.region.now bodies new (g.D.Disk.story c.args.disk.now) ready c.requires is fits (c.gate.result + 1) c.piece.result.now
    (g.D.Disk.story c.write_through.new.disk) (ap (λ n. n + 1) c.gate.ensures.gate) c.piece.ensures (c.in_ok-write_through.ensures.ok told)
    c.gate-2.result (g.D.Disk.story c.open_gate.new.disk) c.gate-2.ensures.gate (c.in_ok-open_gate.ensures.ok told)

pub returns-clause-any_moment : goal.returns-clause-any_moment
returns-clause-any_moment g c told limit bodies new ready is fits =
    let p = c.args.region.now in
    let s = g.D.Disk.story c.args.disk.now in
    let u = g.D.Disk.story c.write_through.new.disk in
    let at_is = ap (λ n. n + 1) c.gate.ensures.gate in
    let staged = c.in_ok-write_through.ensures.ok told in
    list_turns limit p bodies new s ready c.requires is fits (c.gate.result + 1) c.piece.result.now u at_is c.piece.ensures staged
    c.gate-2.result _ c.gate-2.ensures.gate (c.write_through.ensures.any_moment told ready.settled)
    (c.open_gate.ensures.any_moment told (list_settled limit p bodies new s ready c.requires is fits (c.gate.result + 1) c.piece.result.now u at_is c.piece.ensures staged))

use Rattle.std.proofs.Common.{ℕ, List, sym, subst}
use Rattle.carte_session.proofs.Staying.{carried_again}
use Rattle.carte_session.proofs.lines.carry_out.Goals as goal

pub returns-in-Some-clause-carried : goal.returns-in-Some-clause-carried
returns-in-Some-clause-carried g c =
    let a : List ℕ × List ℕ = (c.args.line.now, c.in-Some.reply.now) in
    let again = c.requires.known a (c.in-Some.ensures {u = tt}) c.args.number in
    let m : g.row.M.Denot × g.row.D.Denot = (c.args.machine.now, c.args.disk.now) in
    carried_again g.M.Machine.answers g.M.Machine.ends m _ c.args.number c.args.line.now c.as_bytes.result.now c.told.result
    (subst (λ (reply : List ℕ). g.M.Machine.answers m c.args.number c.args.line.now reply m) (sym c.as_bytes.ensures.value) again) c.told.ensures.says

use Rattle.std.proofs.Common.{◌+◌, ◌∙◌, ap}
use Rattle.std.proofs.lemmas.Result.{on_ok_weaker}
use Rattle.carte_bank.specs.Turns.{root_bytes}
use Rattle.carte_journal.proofs.Rewritings.{stage_ready, stage_stays}
use Rattle.carte_journal.proofs.rewrite.stage.Goals as goal

pub returns-clause-ok : goal.returns-clause-ok
returns-clause-ok g c told limit bodies new ready is fits =
    on_ok_weaker c.write_pair.result
    (stage_ready limit c.args.region.now c.args.roots bodies new (g.D.Disk.story c.args.disk.now) ready c.requires.bank is
    (c.other.result + 1) c.at-2.result c.as_slice.result.now c.piece.result.now _
    (ap (λ n. n + 1) c.other.ensures) (c.as_slice.ensures ∙ c.root_bytes-root.ensures ∙ ap (root_bytes (c.args.roots.generation + 1)) c.at.ensures.at)
    c.at-2.ensures.at c.piece.ensures fits c.requires.next) (c.write_pair.ensures.ok told)

pub returns-clause-any_moment : goal.returns-clause-any_moment
returns-clause-any_moment g c told limit bodies new ready is fits =
    stage_stays limit c.args.region.now c.args.roots bodies new (g.D.Disk.story c.args.disk.now) ready c.requires.bank is
    (c.other.result + 1) c.at-2.result c.as_slice.result.now c.piece.result.now _
    (ap (λ n. n + 1) c.other.ensures) (c.as_slice.ensures ∙ c.root_bytes-root.ensures ∙ ap (root_bytes (c.args.roots.generation + 1)) c.at.ensures.at)
    c.at-2.ensures.at c.piece.ensures (c.write_pair.ensures.any_moment told ready.settled)

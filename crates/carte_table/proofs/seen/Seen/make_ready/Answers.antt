use Rattle.std.proofs.Common.{subst, IfOk}
use Rattle.carte_table.specs.Lookups.{is_link_of}
use Rattle.carte_table.specs.Steps.{IsReady}
use Rattle.carte_table.proofs.seen.Seen.make_ready.Goals as goal

pub returns-clause-ok : goal.returns-clause-ok
returns-clause-ok c =
    subst (λ xs. IfOk c.make_ready.result (λ left. IsReady is_link_of c.args.later xs left.items c.make_ready.new.self)) c.self.view_is
    (subst (λ ls. IfOk c.make_ready.result (λ left. IsReady is_link_of ls c.self.inside.links left.items c.make_ready.new.self)) c.later.view_is c.make_ready.ensures.ok)

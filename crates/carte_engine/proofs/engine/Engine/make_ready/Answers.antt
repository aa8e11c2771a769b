use Rattle.std.proofs.Common.{◌≡◌, sym, subst, ◌∙◌}
use Rattle.carte_compact.specs.Rewriting.{Rewrites}
use Rattle.carte_state.specs.Around.{over_disk}
use Rattle.carte_state.specs.States.{Stand}
use Rattle.carte_engine.specs.Committing.{IsDue}
use Rattle.carte_engine.proofs.Committing.{made_ready}
use Rattle.carte_engine.proofs.engine.Engine.make_ready.Goals as goal

pub returns-clause-ready : goal.returns-clause-ready
returns-clause-ready g c =
    let d = over_disk g.D.Disk.tells g.D.Disk.story g.D.Disk.faults c.args.disk.now c.rewrite.new.disk in
    let due : IsDue c.args.first c.self.inside.state c.args.batch.now = λ live is. sym (c.in_ok-is_due.ensures.due live is) ∙ c.if-not-branch.false in
    let before : c.is_due.new.state ≡ c.args.self.now = c.is_due.ensures.same ∙ c.self.view_is in
    made_ready c.args.first d c.args.self.now c.rewrite.new.state c.args.batch.now c.rewrite.result (subst (λ (s : Stand). IsDue c.args.first s c.args.batch.now) c.self.view_is due)
    (subst (λ (s : Stand). Rewrites d s c.rewrite.new.state c.rewrite.result) before c.rewrite.ensures)

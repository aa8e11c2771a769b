use Rattle.std.proofs.Common.{Err, inl, inr, ◌∙◌, ap, subst}
use Rattle.std.proofs.lemmas.Result.{err_from_is_err_and}
use Rattle.carte_state.specs.Applying.{Applies}
use Rattle.carte_state.specs.Around.{over_disk}
use Rattle.carte_state.specs.States.{Stand}
use Rattle.carte_engine.proofs.Committing.{followed}
use Rattle.carte_engine.proofs.engine.Engine.commit_one.Goals as goal

pub returns-in_err-make_ready : goal.returns-in_err-make_ready
returns-in_err-make_ready g c =
    let p = err_from_is_err_and c.from_residual.result c.from_residual.ensures.1 in
    inr (c.in_err-make_ready.field-0.0, p.1 ∙ ap Err p.2, c.in_err-make_ready.ensures.ready)

pub returns : goal.returns
returns g c =
    inl (followed c.args.first g.D.Disk.tells (g.D.Disk.story c.args.disk.now) (g.D.Disk.story c.make_ready.new.disk) (g.D.Disk.story c.apply.new.disk) (g.D.Disk.faults c.args.disk.now) (g.D.Disk.faults c.make_ready.new.disk)
    (g.D.Disk.faults c.apply.new.disk) _ _ _ c.args.self.now c.make_ready.new.self c.apply.new.self c.args.batch c.apply.result c.in_ok-make_ready.ensures.ready
    (subst (λ (s : Stand). Applies (over_disk g.D.Disk.tells g.D.Disk.story g.D.Disk.faults c.make_ready.new.disk c.apply.new.disk) s c.apply.new.self c.args.batch c.apply.result) c.self.view_is c.apply.ensures))

use Rattle.std.proofs.Common.{Ok, Err, refl, ap, subst, ◌∙◌, inl, inr}
use Rattle.std.proofs.lemmas.Result.{err_from_is_err_and}
use Rattle.carte_state.specs.Around.{over_disk}
use Rattle.carte_state.specs.States.{Stand}
use Rattle.carte_engine.specs.Committing.{CommitsAll}
use Rattle.carte_engine.proofs.engine.Engine.build.Goals as goal

pub returns-in_err-batches : goal.returns-in_err-batches
returns-in_err-batches g c =
    let r = c.from_residual.result in
    let p = err_from_is_err_and r c.from_residual.ensures.1 in
    inr (p.1 ∙ ap Err p.2, record { stand = c.plan.ensures.kept; disk = record { same = refl; story = refl; faults = refl } })

pub returns-in_err-commit : goal.returns-in_err-commit
returns-in_err-commit g c =
    let r = c.from_residual-in_err-commit.result in
    let p = err_from_is_err_and r c.from_residual-in_err-commit.ensures.1 in
    let seen = over_disk g.D.Disk.tells g.D.Disk.story g.D.Disk.faults c.args.disk.now c.commit.new.disk in
    let batches = c.in_ok-batches.field-0.batches.items in
    inl (
      c.in_ok-batches.field-0,
      Err c.in_err-commit.field-0.0,
      c.in_ok-batches.ensures.plans,
      c.in_ok-batches.ensures.shows,
      subst (λ (old : Stand). CommitsAll seen old c.commit.new.self batches (Err c.in_err-commit.field-0.0)) c.plan.ensures.kept
          (subst (λ applied. CommitsAll seen c.plan.new.self c.commit.new.self batches applied) c.in_err-commit.was c.commit.ensures),
      p.1 ∙ ap Err p.2,
    )

pub returns : goal.returns
returns g c =
    let seen = over_disk g.D.Disk.tells g.D.Disk.story g.D.Disk.faults c.args.disk.now c.commit.new.disk in
    inl (
      c.in_ok-batches.field-0,
      Ok c.in_ok-commit.field-0,
      c.in_ok-batches.ensures.plans,
      c.in_ok-batches.ensures.shows,
      subst (λ (old : Stand). CommitsAll seen old c.commit.new.self c.in_ok-batches.field-0.batches.items (Ok c.in_ok-commit.field-0)) c.plan.ensures.kept
          (subst (λ applied. CommitsAll seen c.plan.new.self c.commit.new.self c.in_ok-batches.field-0.batches.items applied) c.in_ok-commit.was c.commit.ensures),
      c.answered.ensures,
    )

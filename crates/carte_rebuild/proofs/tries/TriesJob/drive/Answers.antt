use Rattle.std.proofs.Common.{refl, ap, ◌∙◌}
use Rattle.carte_rebuild.specs.Trying.{tries}
use Rattle.carte_rebuild.specs.Left.{open_in, task_in, behind, left_of}
use Rattle.carte_rebuild.proofs.Driven.{gave_again, gave_halt, gave_behind}
use Rattle.carte_rebuild.proofs.tries.TriesJob.drive.Goals as goal

pub returns-in-Ok-Some-clause-gave : goal.returns-in-Ok-Some-clause-gave
returns-in-Ok-Some-clause-gave g c =
    gave_again left_of _ _ _ _ (open_in c.args.self.now) (open_in c.try_checks.new.self) (behind (task_in c.args.self.now)) c.args.self.now c.try_checks.new.self c.in-Ok-Some.reuse refl (rw c.in-Ok-Some.field-0-is at (c.in-Ok-Some.ensures {u = tt}).tried)

pub returns-in-Ok-None-clause-gave : goal.returns-in-Ok-None-clause-gave
returns-in-Ok-None-clause-gave g c =
    let says = c.in-Ok-None.ensures {u = tt} in
    let tried = rw c.in-Ok-None.field-0-is at says.tried in
    gave_behind left_of _ (g.E.Effect.truth c.try_checks.new.effect) _ (g.E.Effect.stops c.try_checks.new.effect) _ (g.E.Effect.log c.try_checks.new.effect) _ (open_in c.args.self.now) (open_in c.try_checks.new.self) (behind (task_in c.args.self.now)) c.args.self.now c.try_checks.new.self c.run.new.self c.run.result says.truth says.stops refl
    (ap (λ cs. tries cs (behind (task_in c.try_checks.new.self))) tried.0 ∙ ap behind says.task)
    tried c.run.ensures.gave

pub returns-in-Err-clause-gave : goal.returns-in-Err-clause-gave
returns-in-Err-clause-gave g c =
    let says = c.in-Err.ensures {u = tt} in
    gave_halt left_of _ _ _ _ (open_in c.args.self.now) (open_in c.try_checks.new.self) (behind (task_in c.args.self.now)) c.args.self.now c.try_checks.new.self c.in-Err.halt refl (ap (λ r. tries (open_in c.try_checks.new.self) (behind r)) says.task) says.tried

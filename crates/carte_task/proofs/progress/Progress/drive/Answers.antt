use Rattle.std.proofs.Common.{Ok, false, ◌∙◌, sym, refl}
use Rattle.carte_effect.specs.Effects.{SameStops}
use Rattle.carte_task.proofs.Answering.{along_same}
use Rattle.carte_task.proofs.Driving.{looked_on, looking_stops, stepped_on, step_stops, starves}
use Rattle.carte_task.proofs.progress.Progress.drive.Goals as goal

pub returns-in-Err-clause-proceeds : goal.returns-in-Err-clause-proceeds
returns-in-Err-clause-proceeds g c =
    looking_stops c.args.kind c.args.code.now _ _ (g.E.Effect.stops c.args.effect.now) _ _ _ _ c.args.self.now c.steps.self c.look_up.new.self c.in-Err.halt c.steps.invariant.truth c.steps.invariant.own c.look_up.ensures.kept.0 c.look_up.ensures.kept.1 c.steps.invariant.along (c.in-Err.ensures {u = tt}).looked

pub returns-in_err-settle-clause-proceeds : goal.returns-in_err-settle-clause-proceeds
returns-in_err-settle-clause-proceeds g c =
    let way = looked_on c.args.kind c.args.code.now _ _ (g.E.Effect.stops c.args.effect.now) _ _ _ _ c.args.self.now c.steps.self c.look_up.new.self (Ok c.in-Ok.field-0) c.steps.invariant.truth c.steps.invariant.own c.look_up.ensures.kept.0 c.look_up.ensures.kept.1 c.steps.invariant.along (c.in-Ok.ensures {u = tt}).looked in
    (along_same _ _ _ _ _ _ _ _ _ c.settle.ensures.answers (sym (c.settle.ensures.rest c.args.kind c.args.code.now refl)) way.0, starves _ _ _ _ c.from_residual.result c.from_residual.ensures.0 c.from_residual.ensures.1)

pub steps-preserved : goal.steps-preserved
steps-preserved g c =
    let way = looked_on c.args.kind c.args.code.now _ _ (g.E.Effect.stops c.args.effect.now) _ _ _ _ c.args.self.now c.steps.self c.look_up.new.self (Ok c.in-Ok.field-0) c.steps.invariant.truth c.steps.invariant.own c.look_up.ensures.kept.0 c.look_up.ensures.kept.1 c.steps.invariant.along (c.in-Ok.ensures {u = tt}).looked in
    let settled = along_same _ _ _ _ _ _ _ _ _ c.settle.ensures.answers (sym (c.settle.ensures.rest c.args.kind c.args.code.now refl)) way.0 in
    let truth = c.look_up.ensures.truth ∙ c.steps.invariant.truth in
    let own : SameStops (g.E.Effect.stops c.args.effect.now) (g.E.Effect.stops c.look_up.new.effect) = ((λ k s h. c.look_up.ensures.stops.0 k s (c.steps.invariant.own.0 k s h)), (λ k s h. c.steps.invariant.own.1 k s (c.look_up.ensures.stops.1 k s h))) in
    record {
      truth = c.step.ensures.truth ∙ truth;
      own = ((λ k s h. c.step.ensures.stops.0 k s (own.0 k s h)), (λ k s h. own.1 k s (c.step.ensures.stops.1 k s h)));
      along = (stepped_on c.args.kind c.args.code.now _ _ (g.E.Effect.stops c.args.effect.now) _ _ _ _ c.args.self.now c.settle.new.self c.step.new.self _ truth own settled c.step.ensures.goes).0;
    }

pub returns-in-Ok-false-clause-proceeds : goal.returns-in-Ok-false-clause-proceeds
returns-in-Ok-false-clause-proceeds g c =
    let way = looked_on c.args.kind c.args.code.now _ _ (g.E.Effect.stops c.args.effect.now) _ _ _ _ c.args.self.now c.steps.self c.look_up.new.self (Ok c.in-Ok.field-0) c.steps.invariant.truth c.steps.invariant.own c.look_up.ensures.kept.0 c.look_up.ensures.kept.1 c.steps.invariant.along (c.in-Ok.ensures {u = tt}).looked in
    let settled = along_same _ _ _ _ _ _ _ _ _ c.settle.ensures.answers (sym (c.settle.ensures.rest c.args.kind c.args.code.now refl)) way.0 in
    let truth = c.look_up.ensures.truth ∙ c.steps.invariant.truth in
    let own : SameStops (g.E.Effect.stops c.args.effect.now) (g.E.Effect.stops c.look_up.new.effect) = ((λ k s h. c.look_up.ensures.stops.0 k s (c.steps.invariant.own.0 k s h)), (λ k s h. c.steps.invariant.own.1 k s (c.look_up.ensures.stops.1 k s h))) in
    stepped_on c.args.kind c.args.code.now _ _ (g.E.Effect.stops c.args.effect.now) _ _ _ _ c.args.self.now c.settle.new.self c.step.new.self (Ok false) truth own settled (rw c.in-Ok-false.field-0-test at (c.in-Ok-false.ensures {u = tt}).goes)

pub returns-in-Err-step-clause-proceeds : goal.returns-in-Err-step-clause-proceeds
returns-in-Err-step-clause-proceeds g c =
    let way = looked_on c.args.kind c.args.code.now _ _ (g.E.Effect.stops c.args.effect.now) _ _ _ _ c.args.self.now c.steps.self c.look_up.new.self (Ok c.in-Ok.field-0) c.steps.invariant.truth c.steps.invariant.own c.look_up.ensures.kept.0 c.look_up.ensures.kept.1 c.steps.invariant.along (c.in-Ok.ensures {u = tt}).looked in
    let settled = along_same _ _ _ _ _ _ _ _ _ c.settle.ensures.answers (sym (c.settle.ensures.rest c.args.kind c.args.code.now refl)) way.0 in
    let truth = c.look_up.ensures.truth ∙ c.steps.invariant.truth in
    let own : SameStops (g.E.Effect.stops c.args.effect.now) (g.E.Effect.stops c.look_up.new.effect) = ((λ k s h. c.look_up.ensures.stops.0 k s (c.steps.invariant.own.0 k s h)), (λ k s h. c.steps.invariant.own.1 k s (c.look_up.ensures.stops.1 k s h))) in
    step_stops c.args.kind c.args.code.now _ _ (g.E.Effect.stops c.args.effect.now) _ _ _ _ c.args.self.now c.settle.new.self c.step.new.self c.in-Err-step.halt truth own settled (c.in-Err-step.ensures {u = tt}).goes

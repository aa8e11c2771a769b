use Rattle.std.proofs.Common.{rules, ◌≡◌, [], ap, sym, ◌∙◌, subst}
use Rattle.carte_value.specs.Once.{Answers}
use Rattle.carte_task.specs.Answered.{Led}
use Rattle.carte_rebuild.specs.Open.{open_checks}
use Rattle.carte_rebuild.specs.Trying.{tries}
use Rattle.carte_rebuild.proofs.Driven.{LedTo, last_holds, last_differs, last_halts}
use Rattle.carte_rebuild.proofs.checks.try_open.Goals as goal

pub returns-in-Ok-Same-clause-tried : goal.returns-in-Ok-Same-clause-tried
returns-in-Ok-Same-clause-tried g c =
    let led = subst (LedTo (g.E.Effect.truth c.args.effect.now) (g.E.Effect.log c.args.effect.now) (g.E.Effect.log c.checks.effect) (open_checks c.args.untried.now)) (ap open_checks c.in-Last.is) c.checks.invariant.led in
    last_holds (g.E.Effect.truth c.args.effect.now) (g.E.Effect.truth c.checks.effect) (g.E.Effect.stops c.args.effect.now) (g.E.Effect.stops c.checks.effect) (g.E.Effect.log c.args.effect.now) (g.E.Effect.log c.checks.effect) (g.E.Effect.log c.drive.new.effect) (open_checks c.args.untried.now) c.in-Last.before.items [] c.in-Last.last c.drive.new.self c.in-Ok-Same.reuse c.checks.invariant.truth led (rw c.in-Ok-Same.field-0-is at (c.in-Ok-Same.ensures {u = tt}).checked) (rw c.in-Ok-Same.field-0-is at (c.in-Ok-Same.ensures {u = tt}).judges)

pub checks-preserved-in-Ok-Differs : goal.checks-preserved-in-Ok-Differs
checks-preserved-in-Ok-Differs g c =
    let says = c.in-Ok-Differs.ensures {u = tt} in
    let led = subst (LedTo (g.E.Effect.truth c.args.effect.now) (g.E.Effect.log c.args.effect.now) (g.E.Effect.log c.checks.effect) (open_checks c.args.untried.now)) (ap open_checks c.in-Last.is) c.checks.invariant.led in
    record {
      truth = says.truth ∙ c.checks.invariant.truth;
      own = ((λ k s h. says.stops.0 k s (c.checks.invariant.own.0 k s h)), (λ k s h. c.checks.invariant.own.1 k s (says.stops.1 k s h)));
      led = subst (LedTo (g.E.Effect.truth c.args.effect.now) (g.E.Effect.log c.args.effect.now) (g.E.Effect.log c.drive.new.effect) (open_checks c.args.untried.now)) (sym c.left.ensures)
          (last_differs (g.E.Effect.truth c.args.effect.now) (g.E.Effect.truth c.checks.effect) (g.E.Effect.stops c.checks.effect) (g.E.Effect.log c.args.effect.now) (g.E.Effect.log c.checks.effect) (g.E.Effect.log c.drive.new.effect) (open_checks c.args.untried.now) c.in-Last.before.items c.in-Last.last c.drive.new.self c.in-Ok-Differs.field-0-0 c.checks.invariant.truth led (rw c.in-Ok-Differs.field-0-is at says.checked));
    }

pub returns-in-Err-clause-tried : goal.returns-in-Err-clause-tried
returns-in-Err-clause-tried g c =
    let says = c.in-Err.ensures {u = tt} in
    let led = subst (LedTo (g.E.Effect.truth c.args.effect.now) (g.E.Effect.log c.args.effect.now) (g.E.Effect.log c.checks.effect) (open_checks c.args.untried.now)) (ap open_checks c.in-Last.is) c.checks.invariant.led in
    last_halts (g.E.Effect.truth c.args.effect.now) (g.E.Effect.truth c.checks.effect) (g.E.Effect.stops c.args.effect.now) (g.E.Effect.stops c.checks.effect) (g.E.Effect.log c.args.effect.now) (g.E.Effect.log c.checks.effect) (g.E.Effect.log c.drive.new.effect) (open_checks c.args.untried.now) c.in-Last.before.items c.in-Last.last c.drive.new.self c.in-Err.halt c.checks.invariant.truth c.checks.invariant.own says.earlier led says.checked

pub returns-clause-tried : goal.returns-clause-tried
returns-clause-tried g c =
    let empty : open_checks c.checks.untried ≡ [] = search rules in
    (empty, λ m. subst (λ ds. (further : Answers) × Led (g.E.Effect.truth c.args.effect.now) (g.E.Effect.log c.args.effect.now) (g.E.Effect.log c.checks.effect) (tries (open_checks c.args.untried.now) m) further (tries ds m)) empty (c.checks.invariant.led m))

use Rattle.std.proofs.Common.{◌<◌, length, get_or, ap, ◌∙◌, arith}
use Rattle.carte_task.proofs.Linking.{check_on, check_differs}
use Rattle.carte_task.proofs.check.Check.compare.Goals as goal

pub links-preserved : goal.links-preserved
links-preserved g c =
    let within : c.links.self-inside.at < length c.args.self.now.earlier.links = omega (arith, c.len.ensures.number, c.links-test.true, ap length c.links.invariant.links) in
    record {
      truth = c.still.ensures.truth ∙ c.links.invariant.truth;
      own = ((λ k s h. c.still.ensures.stops.0 k s (c.links.invariant.own.0 k s h)), (λ k s h. c.links.invariant.own.1 k s (c.still.ensures.stops.1 k s h)));
      key = c.links.invariant.key;
      value = c.links.invariant.value;
      links = c.links.invariant.links;
      led = check_on _ _ _ _ _ _ c.links.self-inside.at c.args.self.now.earlier.links c.index-as_slice-self.result (g.E.Effect.stops c.links.effect) c.links.invariant.truth within (c.index-as_slice-self.is ∙ ap (λ ls. get_or ls c.links.self-inside.at c.index-as_slice-self.result) (c.as_slice.ensures ∙ c.links.invariant.links)) c.in-Ok-true.field-0 c.in-Ok-true.field-0-test (c.in-Ok-true.ensures {u = tt}).asked c.links.invariant.led;
    }

pub returns-in-Ok-false-clause-checked : goal.returns-in-Ok-false-clause-checked
returns-in-Ok-false-clause-checked g c =
    let within : c.links.self-inside.at < length c.args.self.now.earlier.links = omega (arith, c.len.ensures.number, c.links-test.true, ap length c.links.invariant.links) in
    check_differs _ _ (g.E.Effect.stops c.args.effect.now) _ _ _ c.args.self.now c.args.self.now c.links.self-inside.at c.args.self.now.earlier.links c.index-as_slice-self.result (g.E.Effect.stops c.links.effect) c.links.invariant.truth within (c.index-as_slice-self.is ∙ ap (λ ls. get_or ls c.links.self-inside.at c.index-as_slice-self.result) (c.as_slice.ensures ∙ c.links.invariant.links)) c.in-Ok-false.field-0 c.in-Ok-false.field-0-test (c.in-Ok-false.ensures {u = tt}).asked c.links.invariant.led

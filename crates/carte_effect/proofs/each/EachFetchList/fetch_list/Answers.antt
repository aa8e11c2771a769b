use Rattle.std.proofs.Common.{◌∷◌, [], ◌++◌, false, refl, ap, sym, ◌∙◌}
use Rattle.carte_effect.specs.Effects.{more, paired}
use Rattle.carte_effect.proofs.More.{more_none}
use Rattle.carte_effect.proofs.Lists.{no_values, values_more, list_halts, asked_more, asked_so_far}
use Rattle.carte_effect.proofs.each.EachFetchList.fetch_list.Goals as goal

pub returns-in-Err-clause-fetched : goal.returns-in-Err-clause-fetched
returns-in-Err-clause-fetched g c =
    list_halts _ _ _ _ false _ c.as_slice-name-items.result.now c.loop-name.name-index c.loop-name.values c.name-item.result c.in-Err.halt c.as_slice-name-items.ensures c.loop-name-test.true c.name-item.is c.loop-name.invariant.0 c.loop-name.invariant.1 c.loop-name.invariant.2 (c.in-Err.ensures {u = tt}).fetched

pub loop-name-init : goal.loop-name-init
loop-name-init g c = (refl, ((λ k s h. h), (λ k s h. h)), rw c.new-values.ensures tt, rw c.new-values.ensures (sym (ap (more (g.E.Effect.log c.args.self.now.effect)) (no_values c.as_slice-name-items.result.now) ∙ more_none (g.E.Effect.log c.args.self.now.effect))))

pub loop-name-preserved : goal.loop-name-preserved
loop-name-preserved g c =
    let put = c.in_ok-push-in-Ok.ensures {u = tt} ∙ ap (λ v. c.loop-name.values ++ v ∷ []) c.into_value.ensures in
    let asked = asked_more _ _ _ _ c.as_slice-name-items.result.now c.loop-name.name-index c.loop-name.values c.name-item.result c.in-Ok.value c.loop-name-test.true c.name-item.is c.loop-name.invariant.2 c.loop-name.invariant.3 (c.in-Ok.ensures {u = tt}).logged in (
      (c.in-Ok.ensures {u = tt}).truth ∙ c.loop-name.invariant.0,
      ((λ k s h. (c.in-Ok.ensures {u = tt}).stops.0 k s (c.loop-name.invariant.1.0 k s h)), (λ k s h. c.loop-name.invariant.1.1 k s ((c.in-Ok.ensures {u = tt}).stops.1 k s h))),
      rw put (values_more _ _ c.as_slice-name-items.result.now c.loop-name.name-index c.loop-name.values c.name-item.result c.in-Ok.value c.loop-name-test.true c.name-item.is c.loop-name.invariant.0 c.loop-name.invariant.2 (c.in-Ok.ensures {u = tt}).fetched),
      rw put asked,
    )

pub returns-in_err-push-in-Ok-clause-asked : goal.returns-in_err-push-in-Ok-clause-asked
returns-in_err-push-in-Ok-clause-asked g c =
    let asked = asked_more _ _ _ _ c.as_slice-name-items.result.now c.loop-name.name-index c.loop-name.values c.name-item.result c.in-Ok.value c.loop-name-test.true c.name-item.is c.loop-name.invariant.2 c.loop-name.invariant.3 (c.in-Ok.ensures {u = tt}).logged in
    asked_so_far _ _ c.args.names.now (c.loop-name.values ++ c.in-Ok.value ∷ []) c.from_residual.result c.from_residual.ensures.0 (asked ∙ ap (λ ks. more (g.E.Effect.log c.args.self.now.effect) (paired ks (c.loop-name.values ++ c.in-Ok.value ∷ []))) c.as_slice-name-items.ensures)

pub returns-in-Err-clause-asked : goal.returns-in-Err-clause-asked
returns-in-Err-clause-asked g c = (c.loop-name.values, (c.in-Err.ensures {u = tt}).logged ∙ c.loop-name.invariant.3 ∙ ap (λ ks. more (g.E.Effect.log c.args.self.now.effect) (paired ks c.loop-name.values)) c.as_slice-name-items.ensures)

pub returns-clause-asked : goal.returns-clause-asked
returns-clause-asked g c = c.loop-name.invariant.3 ∙ ap (λ ks. more (g.E.Effect.log c.args.self.now.effect) (paired ks c.loop-name.values)) c.as_slice-name-items.ensures

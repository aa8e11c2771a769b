use Rattle.std.proofs.Common.{ap, sym, subst, ◌∙◌}
use Rattle.carte_rebuild.specs.Tried.{Tried}
use Rattle.carte_rebuild.specs.Left.{open_at}
use Rattle.carte_rebuild.proofs.tries.Tries.try_checks.Goals as goal

pub returns-in-Checks-clause-tried : goal.returns-in-Checks-clause-tried
returns-in-Checks-clause-tried g c =
    subst (λ cs. Tried (g.E.Effect.truth c.args.effect.now) (g.E.Effect.stops c.args.effect.now) (g.E.Effect.log c.args.effect.now) (g.E.Effect.log c.try_all.new.effect) cs c.try_all.new.self c.try_all.result)
    (sym (ap open_at (sym c.deref_mut.ensures.value ∙ c.in-Checks.is)))
    c.try_all.ensures.tried

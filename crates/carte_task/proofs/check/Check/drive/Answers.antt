use Rattle.carte_task.proofs.Linking.{judged}
use Rattle.carte_task.proofs.check.Check.drive.Goals as goal

pub returns-clause-judges : goal.returns-clause-judges
returns-clause-judges g c = judged (g.E.Effect.truth c.args.effect.now) (g.E.Effect.stops c.args.effect.now) (g.E.Effect.log c.args.effect.now) (g.E.Effect.log c.compare.new.effect) c.args.self.now c.compare.new.self c.compare.result c.compare.ensures.checked c.compare.ensures.reuse

use Rattle.std.proofs.Common.{◌≡◌, ◌-◌, length}
use Rattle.carte_value.specs.Once.{Answers}
use Rattle.carte_effect.specs.Effects.{SameStops}
use Rattle.carte_task.specs.Answered.{Led}
use Rattle.carte_task.specs.Checks.{rest_from}
use Rattle.carte_task.proofs.Linking.{from}
use Rattle.carte_task.proofs.check.Check.compare.Given as goal

abbrev pub invariant-links : goal.invariant-links
invariant-links g l = record {
  truth : g.E.Effect.truth l.effect ≡ g.E.Effect.truth l.fn.effect;
  own : SameStops (g.E.Effect.stops l.fn.effect) (g.E.Effect.stops l.effect);
  key : l.self-inside.key ≡ l.fn.self.earlier.key;
  value : l.self-inside.value ≡ l.fn.self.earlier.value;
  links : l.self-inside.links ≡ l.fn.self.earlier.links;
  led : (a : Answers) × Led (g.E.Effect.truth l.fn.effect) (g.E.Effect.log l.fn.effect) (g.E.Effect.log l.effect) (rest_from l.fn.self) a (from l.self-inside.at l.fn.self.earlier.links);
}

abbrev pub decreases-links : goal.decreases-links
decreases-links g l = length l.self-inside.links - l.self-inside.at

use Rattle.std.proofs.Common.{◌≡◌, length}
use Rattle.carte_effect.specs.Effects.{SameStops}
use Rattle.carte_rebuild.specs.Open.{open_checks}
use Rattle.carte_rebuild.proofs.Driven.{LedTo}
use Rattle.carte_rebuild.proofs.checks.try_open.Given as goal

abbrev pub invariant-checks : goal.invariant-checks
invariant-checks g l = record {
  truth : g.E.Effect.truth l.effect ≡ g.E.Effect.truth l.fn.effect;
  own : SameStops (g.E.Effect.stops l.fn.effect) (g.E.Effect.stops l.effect);
  led : LedTo (g.E.Effect.truth l.fn.effect) (g.E.Effect.log l.fn.effect) (g.E.Effect.log l.effect) (open_checks l.fn.untried) (open_checks l.untried);
}

abbrev pub decreases-checks : goal.decreases-checks
decreases-checks g l = length (open_checks l.untried)

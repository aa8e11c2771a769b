use Rattle.std.proofs.Common.{◌≡◌, ◌-◌, length}
use Rattle.carte_effect.specs.Effects.{SameStops}
use Rattle.carte_task.specs.Answered.{Along}
use Rattle.carte_task.specs.State.{answers_in, rest_in}
use Rattle.carte_task.proofs.progress.Progress.drive.Given as goal

abbrev pub invariant-steps : goal.invariant-steps
invariant-steps g l = record {
  truth : g.E.Effect.truth l.effect ≡ g.E.Effect.truth l.initial.effect;
  own : SameStops (g.E.Effect.stops l.initial.effect) (g.E.Effect.stops l.effect);
  along : Along (g.E.Effect.truth l.initial.effect) (g.E.Effect.log l.initial.effect) (g.E.Effect.log l.effect) (answers_in l.initial.self) (rest_in l.kind l.code l.initial.self) (answers_in l.self) (rest_in l.kind l.code l.self);
}

abbrev pub decreases-steps : goal.decreases-steps
decreases-steps g l = length l.code - l.self.at

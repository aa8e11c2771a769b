use Rattle.std.proofs.Common.{◌≡◌, ◌-◌, List, length}
use Rattle.carte_value.specs.declared.value.Value.{Value}
use Rattle.carte_value.specs.Asks.{Asks}
use Rattle.carte_effect.specs.Effects.{SameStops}
use Rattle.carte_task.specs.Answered.{Along}
use Rattle.carte_task.specs.State.{answers_in, waits}
use Rattle.carte_task.specs.Wanting.{names_wanted}
use Rattle.carte_task.proofs.progress.Progress.look_up.Given as goal

abbrev pub invariant-loop-name : goal.invariant-loop-name
invariant-loop-name g l = record {
  truth : g.E.Effect.truth l.effect ≡ g.E.Effect.truth l.initial.effect;
  own : SameStops (g.E.Effect.stops l.initial.effect) (g.E.Effect.stops l.effect);
  at : l.self.at ≡ l.initial.self.at;
  next : l.self.next ≡ l.initial.self.next;
  along : (go : List Value → Asks Value) → Along (g.E.Effect.truth l.initial.effect) (g.E.Effect.log l.initial.effect) (g.E.Effect.log l.effect) (answers_in l.initial.self) (waits l.initial.self go) (answers_in l.self) (waits l.self go);
}

abbrev pub decreases-loop-name : goal.decreases-loop-name
decreases-loop-name g l = length (names_wanted l.self.wanted) - l.self.looked

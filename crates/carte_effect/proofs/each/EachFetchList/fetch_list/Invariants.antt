use Rattle.std.proofs.Common.{◌≡◌, take}
use Rattle.carte_effect.specs.Effects.{more, paired, SameStops}
use Rattle.carte_effect.specs.Lists.{ValuesOf}
use Rattle.carte_effect.proofs.each.EachFetchList.fetch_list.Given as goal

abbrev pub invariant-loop-name : goal.invariant-loop-name
invariant-loop-name g l = (g.E.Effect.truth l.self.effect ≡ g.E.Effect.truth l.initial.self.effect) × SameStops (g.E.Effect.stops l.initial.self.effect) (g.E.Effect.stops l.self.effect) × ValuesOf (g.E.Effect.truth l.initial.self.effect) (take l.name-index l.name-items) l.values × (g.E.Effect.log l.self.effect ≡ more (g.E.Effect.log l.initial.self.effect) (paired l.name-items l.values))

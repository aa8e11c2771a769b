use Rattle.carte_value.specs.Lists.{Begins}
use Rattle.carte_table.specs.Lookups.{has_key}
use Rattle.carte_table.specs.Steps.{IsReady}
use Rattle.carte_table.proofs.firsts.Firsts.bring_all.Given as goal

abbrev pub invariant-loop-item : goal.invariant-loop-item
invariant-loop-item g l = IsReady (has_key g.T.Keyed.key_of) l.yielded l.initial.self l.left.items l.self × Begins l.initial.self l.self

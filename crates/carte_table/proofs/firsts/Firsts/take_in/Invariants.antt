use Rattle.carte_table.specs.Lookups.{has_key}
use Rattle.carte_table.specs.Steps.{Replaces}
use Rattle.carte_table.proofs.firsts.Firsts.take_in.Given as goal

abbrev pub invariant-loop-item : goal.invariant-loop-item
invariant-loop-item g l = Replaces (has_key g.T.Keyed.key_of) l.yielded l.initial.self l.self

use Rattle.std.proofs.Common.{take}
use Rattle.std.specs.HashMap.{get}
use Rattle.carte_name.specs.Names.{name_eq}
use Rattle.carte_table.specs.Lookups.{has_key}
use Rattle.carte_table.specs.Places.{IsFirstPlaces}
use Rattle.carte_table.proofs.firsts.places_of_all.Given as goal

abbrev pub invariant-loop-at : goal.invariant-loop-at
invariant-loop-at g l = IsFirstPlaces (has_key g.T.Keyed.key_of) (take l.at l.items) (get name_eq l.table)

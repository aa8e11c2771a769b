use Rattle.std.proofs.Common.{◌≤◌, take}
use Rattle.std.specs.HashMap.{get}
use Rattle.carte_name.specs.Names.{name_eq}
use Rattle.carte_table.specs.KeyPlaces.{places_in}
use Rattle.carte_table.specs.Latest.{latest_length}
use Rattle.carte_table.specs.Lookups.{has_key}
use Rattle.carte_table.specs.Places.{ArePlaces}
use Rattle.carte_table.proofs.all.places_of_all.Given as goal

abbrev pub invariant-loop-at : goal.invariant-loop-at
invariant-loop-at g l = ArePlaces (has_key g.T.Keyed.key_of) (take l.at l.items) (λ q. places_in (get name_eq l.table q)) × (l.least ≤ latest_length g.T.Compared.alike g.T.Measured.spelled (take l.at l.items))

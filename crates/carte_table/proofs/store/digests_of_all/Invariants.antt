use Rattle.std.proofs.Common.{◌≡◌, take, map}
use Rattle.std.specs.HashMap.{get}
use Rattle.carte_name.specs.Names.{name_eq}
use Rattle.carte_value.specs.Spelling.{digest_of}
use Rattle.carte_table.specs.Lookups.{is_value_of}
use Rattle.carte_table.specs.Places.{IsFirstPlaces}
use Rattle.carte_table.proofs.store.digests_of_all.Given as goal

abbrev pub invariant-loop-at : goal.invariant-loop-at
invariant-loop-at l = (l.digests.items ≡ map digest_of (take l.at l.values)) × IsFirstPlaces (λ d. is_value_of (record { 0 = d })) (take l.at l.values) (get name_eq l.table)

use Rattle.std.proofs.Common.{take}
use Rattle.std.specs.HashMap.{get}
use Rattle.carte_name.specs.Names.{name_eq}
use Rattle.carte_table.specs.Places.{IsFirstPlaces}
use Rattle.carte_note.specs.Lists.{is_of_key}
use Rattle.carte_note.proofs.list.places_of_all.Given as goal

abbrev pub invariant-loop-at : goal.invariant-loop-at
invariant-loop-at l = IsFirstPlaces is_of_key (take l.at l.finished) (get name_eq l.places)

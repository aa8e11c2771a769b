use Rattle.std.proofs.Common.{◌≡◌, drop}
use Rattle.carte_sound.specs.Left.{names_eq}
use Rattle.carte_note.specs.Writes.{names_in}
use Rattle.carte_note.proofs.entry.all_same.Given as goal

abbrev pub invariant-loop-at : goal.invariant-loop-at
invariant-loop-at l = names_eq l.names (names_in l.links) ≡ names_eq (drop l.at l.names) (names_in (drop l.at l.links))

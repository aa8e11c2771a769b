use Rattle.std.proofs.Common.{◌≡◌, drop, length}
use Rattle.carte_record.specs.Lookups.{links_eq}
use Rattle.carte_record.proofs.trace.are_equal.Given as goal

abbrev pub invariant-loop-at : goal.invariant-loop-at
invariant-loop-at l = (length l.links ≡ length l.others) × (links_eq l.links l.others ≡ links_eq (drop l.at l.links) (drop l.at l.others))

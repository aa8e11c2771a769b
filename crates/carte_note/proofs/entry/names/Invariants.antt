use Rattle.std.proofs.Common.{◌≡◌, take}
use Rattle.carte_note.specs.Writes.{names_in}
use Rattle.carte_note.proofs.entry.names.Given as goal

abbrev pub invariant-loop-link : goal.invariant-loop-link
invariant-loop-link l = l.names ≡ names_in (take l.link-index l.link-items)

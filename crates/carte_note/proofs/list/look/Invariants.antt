use Rattle.std.proofs.Common.{◌≡◌, take, None}
use Rattle.carte_note.specs.Lists.{finished_of}
use Rattle.carte_note.proofs.list.look.Given as goal

abbrev pub invariant-loop-one : goal.invariant-loop-one
invariant-loop-one l = finished_of (take l.one-index l.finished) l.key ≡ None

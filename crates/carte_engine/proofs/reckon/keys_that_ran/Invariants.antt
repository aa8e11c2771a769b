use Rattle.std.proofs.Common.{◌≡◌, take}
use Rattle.carte_note.specs.Right.{ran_in}
use Rattle.carte_engine.proofs.reckon.keys_that_ran.Given as goal

abbrev pub invariant-loop-one : goal.invariant-loop-one
invariant-loop-one l = l.keys.items ≡ ran_in (take l.one-index l.finished)

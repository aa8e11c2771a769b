use Rattle.std.proofs.Common.{◌≡◌, take}
use Rattle.carte_note.specs.Right.{keys_in}
use Rattle.carte_restart.proofs.chains.keys.Given as goal

abbrev pub invariant-loop-key : goal.invariant-loop-key
invariant-loop-key l = l.keys ≡ keys_in (take l.key-index l.key-items)

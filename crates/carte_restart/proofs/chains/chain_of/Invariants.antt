use Rattle.std.proofs.Common.{◌≡◌, take}
use Rattle.carte_note.specs.Right.{keys_in}
use Rattle.carte_sound.specs.LeadsTo.{chain_behind}
use Rattle.carte_restart.proofs.chains.chain_of.Given as goal

abbrev pub invariant-loop-at : goal.invariant-loop-at
invariant-loop-at l = l.chain ≡ chain_behind (keys_in l.finished) (take l.at l.names)

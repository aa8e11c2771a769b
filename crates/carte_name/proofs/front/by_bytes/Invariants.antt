use Rattle.std.proofs.Common.{◌≡◌, take}
use Rattle.carte_name.specs.Fronts.{padded}
use Rattle.carte_name.proofs.front.by_bytes.Given as goal

abbrev pub invariant-loop-at : goal.invariant-loop-at
invariant-loop-at l = l.front ≡ padded 16 (take l.at l.text)

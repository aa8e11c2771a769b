use Rattle.std.proofs.Common.{◌≡◌, take}
use Rattle.carte_value.proofs.numbering.Numbering.list.Given as goal

abbrev pub invariant-loop-name : goal.invariant-loop-name
invariant-loop-name l = l.list ≡ take l.name-index l.self

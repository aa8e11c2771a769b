use Rattle.std.proofs.Common.{◌≡◌, take}
use Rattle.carte_table.proofs.named.name_table.Given as goal

abbrev pub invariant-loop-name : goal.invariant-loop-name
invariant-loop-name l = l.table ≡ take l.name-index l.name-items

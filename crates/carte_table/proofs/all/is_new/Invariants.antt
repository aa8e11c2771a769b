use Rattle.std.proofs.Common.{◌≡◌, false, take}
use Rattle.std.specs.List.{list_any}
use Rattle.carte_table.specs.Latest.{stands_at}
use Rattle.carte_table.proofs.all.is_new.Given as goal

abbrev pub invariant-loop-place : goal.invariant-loop-place
invariant-loop-place g l = list_any (stands_at g.T.Compared.alike l.item l.items) (take l.place-index l.at) ≡ false

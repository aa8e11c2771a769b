use Rattle.std.proofs.Common.{◌≡◌, take}
use Rattle.carte_table.proofs.store.Store.copy.Given as goal

abbrev pub invariant-loop-at : goal.invariant-loop-at
invariant-loop-at l = l.store ≡ take l.at l.self

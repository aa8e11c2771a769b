use Rattle.std.proofs.Common.{◌≡◌, ◌++◌}
use Rattle.carte_table.proofs.all.All.append.Given as goal

abbrev pub invariant-loop-item : goal.invariant-loop-item
invariant-loop-item g l = l.self ≡ l.initial.self ++ l.yielded

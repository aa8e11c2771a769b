use Rattle.std.proofs.Common.{◌-◌, length, map, vec_items}
use Rattle.carte_mark.specs.Tables.{Fills}
use Rattle.carte_mark.proofs.users.fill.Given as goal

abbrev pub invariant-loop-alloc : goal.invariant-loop-alloc
invariant-loop-alloc l = Fills l.count (map vec_items l.initial.lists.items) (map vec_items l.lists.items)

abbrev pub decreases-loop-alloc : goal.decreases-loop-alloc
decreases-loop-alloc l = l.count - length l.lists.items

use Rattle.std.proofs.Common.{◌-◌, ◌+◌, length}
use Rattle.carte_mark.specs.Tables.{users_by}
use Rattle.carte_mark.proofs.Reaching.{IsReaching}
use Rattle.carte_mark.proofs.walk.walk_over.Given as goal

abbrev pub invariant-loop-next : goal.invariant-loop-next
invariant-loop-next l = IsReaching l.kept (users_by l.users) l.fn.names l.reached l.next

abbrev pub decreases-loop-next : goal.decreases-loop-next
decreases-loop-next l = (length l.fn.names + length l.kept.entries) - l.next

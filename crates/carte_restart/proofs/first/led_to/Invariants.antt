use Rattle.std.proofs.Common.{◌-◌, length}
use Rattle.carte_record.specs.Kept.{kept_view}
use Rattle.carte_restart.proofs.Leading.{IsLeading, all_needs}
use Rattle.carte_restart.proofs.first.led_to.Given as goal

abbrev pub invariant-loop-next : goal.invariant-loop-next
invariant-loop-next l = IsLeading (kept_view l.kept) l.targets l.led l.next

abbrev pub decreases-loop-next : goal.decreases-loop-next
decreases-loop-next l = length (all_needs l.kept.entries) - l.next

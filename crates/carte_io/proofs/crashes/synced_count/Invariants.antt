use Rattle.std.proofs.Common.{◌≤◌, drop, length}
use Rattle.carte_io.specs.Crashes.{AreWrites}
use Rattle.carte_io.proofs.crashes.synced_count.Given as goal

abbrev pub invariant-loop-count : goal.invariant-loop-count
invariant-loop-count l = record {
  within : l.count ≤ length l.calls;
  writes : AreWrites (drop l.count l.calls);
}

abbrev pub decreases-loop-count : goal.decreases-loop-count
decreases-loop-count l = l.count

use Rattle.std.proofs.Common.{◌+◌, ◌-◌, length}
use Rattle.carte_bench.specs.Held.{spots_of, book_of}
use Rattle.carte_bench.specs.Waits.{onward}
use Rattle.carte_bench.proofs.Ways.{IsOnWay}
use Rattle.carte_bench.proofs.bench.Bench.reason.Given as goal

abbrev pub invariant-names : goal.invariant-names
invariant-names g l = IsOnWay (onward (book_of l.self) (spots_of l.self)) l.target l.way.names.keys l.way.at

abbrev pub decreases-names : goal.decreases-names
decreases-names g l = (length l.self.slots.entries + 1) - length l.way.names.keys

use Rattle.std.proofs.Common.{◌≡◌, ◌≤◌, ◌++◌, [], length, get_or, ◌+◌}
use Rattle.carte_search.specs.Search.{place, trails}
use Rattle.carte_search.proofs.search.Search.trail.Given as goal

abbrev pub invariant-back : goal.invariant-back
invariant-back l = record { within : place l.next ≤ length l.self.met.items; names : l.names.items ++ get_or (trails l.self.met.items) (place l.next) [] ≡ get_or (trails l.self.met.items) (l.fn.at + 1) [] }

abbrev pub decreases-back : goal.decreases-back
decreases-back l = place l.next

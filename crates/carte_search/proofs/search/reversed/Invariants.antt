use Rattle.std.proofs.Common.{◌≡◌, ◌++◌, [], length}
use Rattle.carte_search.specs.Search.{unwound}
use Rattle.carte_search.proofs.search.reversed.Given as goal

abbrev pub invariant-turns : goal.invariant-turns
invariant-turns l = l.path ++ unwound l.names.items [] ≡ unwound l.fn.names.items []

abbrev pub decreases-turns : goal.decreases-turns
decreases-turns l = length l.names.items

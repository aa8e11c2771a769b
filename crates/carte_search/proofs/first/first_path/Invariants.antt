use Rattle.std.proofs.Common.{◌+◌, ◌-◌, length}
use Rattle.carte_search.proofs.Loops.{IsSearching}
use Rattle.carte_search.specs.Search.{Graph}
use Rattle.carte_search.proofs.first.first_path.Given as goal

abbrev pub invariant-names : goal.invariant-names
invariant-names g l = IsSearching (record { nexts = g.G.Graph.nexts l.graph; is_goal = g.G.Graph.is_goal l.graph; starts = l.starts; nodes = l.fn.nodes }) l.search.unvisited l.search.met.items l.at

abbrev pub decreases-names : goal.decreases-names
decreases-names g l = (length l.search.unvisited.keys + length l.search.met.items) - l.at

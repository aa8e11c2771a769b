use Rattle.std.proofs.Common.{◌≡◌, ◌++◌}
use Rattle.carte_search.specs.Search.{met_from}
use Rattle.carte_search.proofs.search.Search.meet.Given as goal

abbrev pub invariant-loop-name : goal.invariant-loop-name
invariant-loop-name l = record { met : l.self.met.items ++ met_from l.from l.name-iterator ≡ l.initial.self.met.items ++ met_from l.from l.initial.name-iterator; unvisited : l.self.unvisited ≡ l.initial.self.unvisited }

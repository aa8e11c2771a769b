use Rattle.std.proofs.Common.{◌≡◌, take}
use Rattle.carte_search.specs.Search.{Picks}
use Rattle.carte_search.proofs.search.Search.pick.Given as goal

abbrev pub invariant-loop-name : goal.invariant-loop-name
invariant-loop-name l = record { picks : Picks l.fn.self.unvisited l.self.unvisited l.next (take l.name-index l.names); met : l.self.met ≡ l.fn.self.met }

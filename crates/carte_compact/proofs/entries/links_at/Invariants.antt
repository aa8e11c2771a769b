use Rattle.std.proofs.Common.{◌≡◌, take}
use Rattle.carte_compact.specs.Live.{found_at, link_at}
use Rattle.carte_compact.proofs.entries.links_at.Given as goal

abbrev pub invariant-loop-name : goal.invariant-loop-name
invariant-loop-name l = l.links ≡ found_at (link_at l.seen) (take l.name-index l.names)

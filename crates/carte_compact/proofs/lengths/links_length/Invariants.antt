use Rattle.std.proofs.Common.{◌≡◌, length, take}
use Rattle.std.specs.List.{flat_map}
use Rattle.carte_codec.specs.Parts.{spelled_link}
use Rattle.carte_compact.specs.Live.{found_at, link_at}
use Rattle.carte_compact.proofs.lengths.links_length.Given as goal

abbrev pub invariant-loop-name : goal.invariant-loop-name
invariant-loop-name l = l.sum ≡ length (flat_map spelled_link (found_at (link_at l.seen) (take l.name-index l.names)))

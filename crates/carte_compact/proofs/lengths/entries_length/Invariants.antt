use Rattle.std.proofs.Common.{◌≡◌, length, take}
use Rattle.std.specs.List.{flat_map}
use Rattle.carte_record.specs.Bodies.{spelled_entry}
use Rattle.carte_compact.specs.Live.{entry_at, found_at}
use Rattle.carte_compact.proofs.lengths.entries_length.Given as goal

abbrev pub invariant-loop-key : goal.invariant-loop-key
invariant-loop-key l = l.sum ≡ length (flat_map spelled_entry (found_at (entry_at l.entries) (take l.key-index l.keys)))

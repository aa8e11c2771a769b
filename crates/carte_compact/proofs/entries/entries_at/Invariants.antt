use Rattle.std.proofs.Common.{◌≡◌, take}
use Rattle.carte_compact.specs.Live.{entry_at, found_at}
use Rattle.carte_compact.proofs.entries.entries_at.Given as goal

abbrev pub invariant-loop-key : goal.invariant-loop-key
invariant-loop-key l = l.list ≡ found_at (entry_at l.entries) (take l.key-index l.keys)

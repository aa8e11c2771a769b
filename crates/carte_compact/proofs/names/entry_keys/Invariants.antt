use Rattle.std.proofs.Common.{◌≡◌, take}
use Rattle.carte_compact.specs.Live.{keys_of}
use Rattle.carte_compact.proofs.names.entry_keys.Given as goal

abbrev pub invariant-loop-entry : goal.invariant-loop-entry
invariant-loop-entry l = l.keys.items ≡ keys_of (take l.entry-index l.entries)

use Rattle.std.proofs.Common.{◌≡◌, take}
use Rattle.carte_compact.specs.Live.{stale_at}
use Rattle.carte_compact.proofs.entries.stale_at.Given as goal

abbrev pub invariant-loop-key : goal.invariant-loop-key
invariant-loop-key l = l.stale ≡ stale_at l.entries (take l.key-index l.keys)

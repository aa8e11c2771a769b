use Rattle.std.proofs.Common.{◌≡◌, take}
use Rattle.carte_compact.specs.Live.{names_of}
use Rattle.carte_compact.proofs.names.seen_names.Given as goal

abbrev pub invariant-loop-link : goal.invariant-loop-link
invariant-loop-link l = l.names.items ≡ names_of (take l.link-index l.seen)

use Rattle.std.proofs.Common.{◌≡◌, take}
use Rattle.carte_io.specs.MemDisks.{after_calls, begun}
use Rattle.carte_io.proofs.crashes.replayed.Given as goal

abbrev pub invariant-loop-call : goal.invariant-loop-call
invariant-loop-call l = l.bytes.items ≡ (after_calls (begun l.first) (take l.call-index l.calls)).now.reads

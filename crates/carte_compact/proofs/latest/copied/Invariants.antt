use Rattle.std.proofs.Common.{◌≡◌, map, take}
use Rattle.carte_compact.proofs.latest.copied.Given as goal

abbrev pub invariant-loop-trace : goal.invariant-loop-trace
invariant-loop-trace g l = l.list ≡ map (λ t. t.now) (take l.trace-index l.traces)

use Rattle.std.proofs.Common.{take}
use Rattle.carte_wave.specs.Front.{AddsEach}
use Rattle.carte_wave.proofs.front.add_each.Given as goal

abbrev pub invariant-loop-key : goal.invariant-loop-key
invariant-loop-key l = AddsEach (take l.key-index l.keys) l.fn.ready l.ready

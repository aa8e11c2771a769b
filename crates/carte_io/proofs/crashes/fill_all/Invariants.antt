use Rattle.std.proofs.Common.{[], take}
use Rattle.carte_io.specs.Crashes.{IsFilled, ranges_on}
use Rattle.carte_io.proofs.crashes.fill_all.Given as goal

abbrev pub invariant-loop-call : goal.invariant-loop-call
invariant-loop-call l = IsFilled l.byte (ranges_on [] (take l.call-index l.calls)) l.fn.bytes.items l.bytes.items

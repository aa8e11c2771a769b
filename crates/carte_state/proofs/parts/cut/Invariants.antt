use Rattle.std.proofs.Common.{◌≡◌, ◌<◌, length}
use Rattle.carte_state.specs.Parts.{held_in}
use Rattle.carte_state.proofs.parts.cut.Given as goal

abbrev pub invariant-loop-body : goal.invariant-loop-body
invariant-loop-body l = record { bodies : held_in l.cuts ≡ l.yielded; count : length l.cuts.parts.items < l.fn.count }

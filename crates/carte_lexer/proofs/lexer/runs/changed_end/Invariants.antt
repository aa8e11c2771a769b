use Rattle.std.proofs.Common.{length, ◌-◌}
use Rattle.carte_lexer.specs.Runs.{Running}
use Rattle.carte_lexer.proofs.lexer.runs.changed_end.Given as goal

abbrev pub invariant-loop-at : goal.invariant-loop-at
invariant-loop-at l = Running l.fn.class l.bytes l.from l.last l.at

abbrev pub decreases-loop-at : goal.decreases-loop-at
decreases-loop-at l = length l.bytes - l.at

use Rattle.std.proofs.Common.{length, ◌-◌}
use Rattle.carte_lexer.specs.Runs.{Running}
use Rattle.carte_lexer.proofs.lexer.runs.kept_end.Given as goal

abbrev pub invariant-loop-at : goal.invariant-loop-at
invariant-loop-at l = Running l.class l.bytes l.from l.class l.at

abbrev pub decreases-loop-at : goal.decreases-loop-at
decreases-loop-at l = length l.bytes - l.at

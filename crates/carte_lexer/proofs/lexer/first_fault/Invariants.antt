use Rattle.std.proofs.Common.{◌≡◌, ◌≤◌, ◌-◌, length, drop}
use Rattle.carte_lexer.specs.Lexer.{idle, lexed}
use Rattle.carte_lexer.specs.Takes.{fault_of}
use Rattle.carte_lexer.proofs.lexer.first_fault.Given as goal

abbrev pub invariant-loop-at : goal.invariant-loop-at
invariant-loop-at l = (l.at ≤ length l.text) × (fault_of l.fault (lexed l.kind idle l.at (drop l.at l.text)) ≡ fault_of l.fault (lexed l.kind idle l.from (drop l.from l.text)))

abbrev pub decreases-loop-at : goal.decreases-loop-at
decreases-loop-at l = length l.text - l.at

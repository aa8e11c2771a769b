use Rattle.std.proofs.Common.{◌≡◌, ◌≤◌, ◌-◌, length}
use Rattle.carte_lexer.specs.Lexer.{idle, lexed}
use Rattle.carte_formula.specs.Whole.{with_tokens}
use Rattle.carte_formula.specs.Resumed.{remaining}
use Rattle.carte_formula.proofs.parser.formula_of.Given as goal

abbrev pub invariant-loop-at : goal.invariant-loop-at
invariant-loop-at l = (l.at ≤ length l.text) × (remaining l.kind l.text l.at l.progress ≡ with_tokens (lexed l.kind idle 0 l.text) (length l.text))

abbrev pub decreases-loop-at : goal.decreases-loop-at
decreases-loop-at l = length l.text - l.at

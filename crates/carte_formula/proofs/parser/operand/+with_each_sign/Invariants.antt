use Rattle.std.proofs.Common.{length}
use Rattle.carte_formula.proofs.parser.operand.+with_each_sign.Given as goal

abbrev pub decreases-with_each_sign : goal.decreases-with_each_sign
decreases-with_each_sign l = length l.stack.now.frames.items

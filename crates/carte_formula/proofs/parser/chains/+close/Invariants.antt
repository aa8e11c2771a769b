use Rattle.std.proofs.Common.{◌+◌, ◌*◌, length}
use Rattle.carte_formula.proofs.parser.chains.+close.Given as goal

abbrev pub decreases-close_inner : goal.decreases-close_inner
decreases-close_inner l = 2 * length l.parser.now.stack.frames.items

abbrev pub decreases-close_behind : goal.decreases-close_behind
decreases-close_behind l = 2 * length l.parser.now.stack.frames.items + 1

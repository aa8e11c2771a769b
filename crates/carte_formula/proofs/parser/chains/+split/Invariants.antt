use Rattle.std.proofs.Common.{◌+◌, ◌*◌, length}
use Rattle.carte_formula.proofs.parser.chains.+split.Given as goal

abbrev pub decreases-split_inner : goal.decreases-split_inner
decreases-split_inner l = 2 * length l.parser.now.stack.frames.items

abbrev pub decreases-split_behind : goal.decreases-split_behind
decreases-split_behind l = 2 * length l.parser.now.stack.frames.items + 1

use Rattle.std.proofs.Common.{◌+◌, ◌*◌, length}
use Rattle.carte_formula.proofs.frames.chains.+join.Given as goal

abbrev pub decreases-join : goal.decreases-join
decreases-join l = 2 * length l.stack.now.frames.items

abbrev pub decreases-join_behind : goal.decreases-join_behind
decreases-join_behind l = 2 * length l.stack.now.frames.items + 1

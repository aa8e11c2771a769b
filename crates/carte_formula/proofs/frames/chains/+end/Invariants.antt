use Rattle.std.proofs.Common.{◌+◌, ◌*◌, length}
use Rattle.carte_formula.proofs.frames.chains.+end.Given as goal

abbrev pub decreases-end_inner : goal.decreases-end_inner
decreases-end_inner l = 2 * length l.stack.now.frames.items

abbrev pub decreases-end_behind : goal.decreases-end_behind
decreases-end_behind l = 2 * length l.stack.now.frames.items + 1

use Rattle.std.proofs.Common.{◌≡◌, take, map}
use Rattle.carte_tree.specs.Code.{pairs_of, arg_tree}
use Rattle.carte_tree.proofs.expr.+copy.Given as goal

abbrev pub invariant-Args::copy-loop-arg : goal.invariant-Args::copy-loop-arg
invariant-Args::copy-loop-arg l = map arg_tree l.items.items ≡ map arg_tree (take l.arg-index l.self.items.items)

abbrev pub invariant-Rest::copy-loop-op : goal.invariant-Rest::copy-loop-op
invariant-Rest::copy-loop-op l = pairs_of l.more.items ≡ pairs_of (take l.op-index l.self.more.items)

use Rattle.std.proofs.Common.{◌≡◌, ◌-◌, drop, length}
use Rattle.carte_tree.specs.Tree.{args_of}
use Rattle.carte_tree.specs.Code.{args_trees}
use Rattle.carte_tree.specs.Formula.{args_free, branches_free}
use Rattle.carte_tree.proofs.fixed.free_branches.Given as goal

abbrev pub invariant-loop-arg : goal.invariant-loop-arg
invariant-loop-arg l = args_free (args_of (args_trees (drop l.at l.args.items.items))) ≡ branches_free (args_of (args_trees l.args.items.items))

abbrev pub decreases-loop-arg : goal.decreases-loop-arg
decreases-loop-arg l = length l.args.items.items - l.at

use Rattle.std.proofs.Common.{◌≡◌, drop}
use Rattle.carte_tree.specs.Tree.{steps_of, args_of}
use Rattle.carte_tree.specs.Code.{rest_steps, terms_of, args_trees}
use Rattle.carte_tree.specs.Formula.{steps_free, args_free}
use Rattle.carte_tree.proofs.fixed.+free.Given as goal

abbrev pub invariant-free_rest-loop-operand : goal.invariant-free_rest-loop-operand
invariant-free_rest-loop-operand l = steps_free (steps_of (terms_of (drop l.operand-index l.rest.more.items))) ≡ steps_free (rest_steps l.rest)

abbrev pub invariant-free_args-loop-arg : goal.invariant-free_args-loop-arg
invariant-free_args-loop-arg l = args_free (args_of (args_trees (drop l.arg-index l.args.items.items))) ≡ args_free (args_of (args_trees l.args.items.items))

use Rattle.std.proofs.Common.{◌≡◌, drop}
use Rattle.carte_tree.specs.Tree.{steps_of, args_of}
use Rattle.carte_tree.specs.Code.{rest_steps, terms_of, args_trees}
use Rattle.carte_tree.specs.Formula.{steps_static, args_static}
use Rattle.carte_tree.proofs.fixed.+fixed.Given as goal

abbrev pub invariant-static_rest-loop-operand : goal.invariant-static_rest-loop-operand
invariant-static_rest-loop-operand l = steps_static (steps_of (terms_of (drop l.operand-index l.rest.more.items))) ≡ steps_static (rest_steps l.rest)

abbrev pub invariant-static_args-loop-arg : goal.invariant-static_args-loop-arg
invariant-static_args-loop-arg l = args_static (args_of (args_trees (drop l.arg-index l.args.items.items))) ≡ args_static (args_of (args_trees l.args.items.items))

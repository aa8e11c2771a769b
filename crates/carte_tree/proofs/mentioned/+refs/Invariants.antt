use Rattle.std.proofs.Common.{◌≡◌, drop}
use Rattle.carte_tree.specs.Tree.{steps_of, args_of}
use Rattle.carte_tree.specs.Code.{rest_steps, terms_of, args_trees}
use Rattle.carte_tree.specs.Formula.{AreChainSteps, AreCallArgs, steps_mentions, args_mentions}
use Rattle.carte_value.specs.Firsts.{seen_all}
use Rattle.carte_tree.proofs.mentioned.+refs.Given as goal

abbrev pub invariant-see_rest-loop-operand : goal.invariant-see_rest-loop-operand
invariant-see_rest-loop-operand l = (seen_all l.seen (steps_mentions (steps_of (terms_of (drop l.operand-index l.rest.more.items)))) ≡ seen_all l.fn.seen (steps_mentions (rest_steps l.rest)))
    × AreChainSteps (steps_of (terms_of (drop l.operand-index l.rest.more.items)))

abbrev pub invariant-see_args-loop-arg : goal.invariant-see_args-loop-arg
invariant-see_args-loop-arg l = (seen_all l.seen (args_mentions (args_of (args_trees (drop l.arg-index l.args.items.items)))) ≡ seen_all l.fn.seen (args_mentions (args_of (args_trees l.args.items.items))))
    × AreCallArgs (args_of (args_trees (drop l.arg-index l.args.items.items)))

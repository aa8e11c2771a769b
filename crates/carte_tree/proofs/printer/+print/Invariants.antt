use Rattle.std.proofs.Common.{◌≡◌, ◌++◌, drop}
use Rattle.carte_value.specs.Lists.{Begins}
use Rattle.carte_tree.specs.Tree.{steps_of, args_of}
use Rattle.carte_tree.specs.Code.{rest_steps, terms_of, args_trees}
use Rattle.carte_tree.specs.Formula.{AreSteps, AreArgs}
use Rattle.carte_tree.specs.Printed.{steps_printed, args_printed, from_printed}
use Rattle.carte_tree.proofs.printer.+print.Given as goal

abbrev pub invariant-print_args-loop-at : goal.invariant-print_args-loop-at
invariant-print_args-loop-at l = (l.out.items ++ from_printed l.at (args_of (args_trees (drop l.at l.args.items.items))) ≡ l.fn.out.items ++ args_printed (args_of (args_trees l.args.items.items)))
    × AreArgs l.func (args_of (args_trees (drop l.at l.args.items.items)))
    × Begins l.fn.out.items l.out.items

abbrev pub invariant-print_rest-loop-op : goal.invariant-print_rest-loop-op
invariant-print_rest-loop-op l = (l.out.items ++ steps_printed l.level (steps_of (terms_of (drop l.op-index l.rest.more.items))) ≡ l.fn.out.items ++ steps_printed l.level (rest_steps l.rest))
    × AreSteps l.level (steps_of (terms_of (drop l.op-index l.rest.more.items)))
    × Begins l.fn.out.items l.out.items

use Rattle.std.proofs.Common.{◌≡◌, ◌++◌, take, drop, map}
use Rattle.carte_tree.specs.Code.{pairs_of, arg_tree, term_of}
use Rattle.carte_tree.specs.Tree.{steps_of, args_of}
use Rattle.carte_tree.specs.Formula.{AreCallArgs}
use Rattle.carte_task.specs.Forms.{HaveLevel}
use Rattle.carte_task.specs.Coding.{code_of_steps, code_of_args}
use Rattle.carte_task.proofs.compile.+write.Given as goal

abbrev pub invariant-write_args-loop-arg : goal.invariant-write_args-loop-arg
invariant-write_args-loop-arg l = (l.code.items ≡ l.initial.code.items ++ code_of_args (args_of (map arg_tree (take l.arg-index l.args.items.items)))) × AreCallArgs (args_of (map arg_tree (drop l.arg-index l.args.items.items)))

abbrev pub invariant-write_rest-loop-op : goal.invariant-write_rest-loop-op
invariant-write_rest-loop-op l = (l.code.items ≡ l.initial.code.items ++ code_of_steps (steps_of (map term_of (pairs_of (take l.op-index l.rest.more.items))))) × HaveLevel (steps_of (map term_of (pairs_of (drop l.op-index l.rest.more.items))))

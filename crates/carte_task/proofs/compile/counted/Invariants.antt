use Rattle.std.proofs.Common.{◌≡◌, take, map}
use Rattle.carte_tree.specs.Code.{arg_tree}
use Rattle.carte_tree.specs.Tree.{args_of}
use Rattle.carte_task.specs.Coding.{count}
use Rattle.carte_task.proofs.compile.counted.Given as goal

abbrev pub invariant-loop-arg : goal.invariant-loop-arg
invariant-loop-arg l = l.count ≡ count (args_of (map arg_tree (take l.arg-index l.args.items.items)))

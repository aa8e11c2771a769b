use Rattle.std.proofs.Common.{sym, ◌∙◌}
use Rattle.carte_tree.specs.Code.{tree_of}
use Rattle.carte_task.proofs.Mentioning.{task_made, made_only, routine_computes}
use Rattle.carte_task.proofs.task.Task.of.Goals as goal

pub returns : goal.returns
returns c = task_made c.args.kind c.args.key.now (tree_of c.args.expr.now) _ (c.in_ok-routine.ensures {u = tt}) c.is_static.ensures

pub invariant_of-result : goal.invariant_of-result
invariant_of-result c = record { only = λ fixed. made_only c.in_ok-routine.routine.kind (tree_of c.args.expr.now) c.in_ok-routine.routine.code.items c.static_runs.ensures (c.in_ok-routine.ensures {u = tt}).code (sym c.is_static.ensures ∙ fixed) }

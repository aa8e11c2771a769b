use Rattle.std.proofs.Common.{rules}
use Rattle.carte_task.proofs.Mentioning.{kept_only}
use Rattle.carte_task.proofs.task.Task.parts.Goals as goal

pub invariant_of-result : goal.invariant_of-result
invariant_of-result c = record {
  mentioned = search rules;
  only = kept_only c.args.self.now.routine.kind c.args.self.now.routine.code.items c.in_ok-code.code.items c.in_ok-refs.refs (search rules) (search rules) (c.args.self.now.only c.requires);
}

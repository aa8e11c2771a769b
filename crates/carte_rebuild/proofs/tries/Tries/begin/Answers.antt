use Rattle.std.proofs.Common.{refl, ap, sym, ◌∙◌}
use Rattle.carte_rebuild.specs.Left.{task_at}
use Rattle.carte_rebuild.proofs.Begun.{begun_now, begun_before}
use Rattle.carte_rebuild.proofs.tries.Tries.begin.Goals as goal

pub returns-in_ok-start-in-Checks-clause-begun : goal.returns-in_ok-start-in-Checks-clause-begun
returns-in_ok-start-in-Checks-clause-begun c = begun_now c.args.self.now _ c.in-Checks.recipe c.in_ok-start-in-Checks.field-0 (ap task_at (sym c.deref.ensures ∙ c.in-Checks.is)) refl c.in_ok-start-in-Checks.ensures.machine

pub returns-in-Task-clause-begun : goal.returns-in-Task-clause-begun
returns-in-Task-clause-begun c = begun_before c.args.self.now _ c.in-Task.field-0 (sym c.deref.ensures ∙ c.in-Task.is) (sym c.deref.ensures ∙ c.in-Task.is)

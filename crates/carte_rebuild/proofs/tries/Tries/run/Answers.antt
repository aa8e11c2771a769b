use Rattle.std.proofs.Common.{refl, ap, sym, ◌∙◌}
use Rattle.carte_task.specs.Machines.{state_of}
use Rattle.carte_rebuild.specs.Trying.{machine_left, tries}
use Rattle.carte_rebuild.specs.Left.{task_in, behind, left_of}
use Rattle.carte_rebuild.proofs.Begun.{one_task}
use Rattle.carte_rebuild.proofs.Driven.{machine_gave}
use Rattle.carte_rebuild.proofs.tries.Tries.run.Goals as goal

pub returns-clause-gave : goal.returns-clause-gave
returns-clause-gave g c =
    let begun = (c.in_ok-begin.ensures {u = tt}).begun in
    machine_gave left_of state_of _ _ _ _ c.args.self.now _ c.in-Task.machine c.drive.new.self c.drive.result
    (ap (λ cs. tries cs (behind (task_in c.args.self.now))) c.requires ∙ begun.left ∙ ap (λ m. machine_left (state_of m)) (one_task c.begin.new.self.stage.value begun.machine c.in-Task.machine begun.stage (sym c.deref_mut.ensures.value ∙ c.in-Task.is)))
    refl
    c.drive.ensures.gave

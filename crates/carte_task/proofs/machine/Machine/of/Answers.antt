use Rattle.std.proofs.Common.{◌≡◌, ◌∙◌, ap, IfOk, Result, Ok, Err}
use Rattle.carte_tree.specs.Code.{tree_of}
use Rattle.carte_task.specs.Machines.{state_of, started}
use Rattle.carte_task.specs.Tasks.{routine_asks}
use Rattle.carte_task.proofs.Mentioning.{routine_computes}
use Rattle.carte_task.proofs.machine.Machine.of.Goals as goal

if_ok : {A E : Type 0} {P Q : A → Type 0} (r : Result A E) → ((x : A) → P x → Q x) → IfOk r P → IfOk r Q
if_ok (Ok x) f p = f x p
if_ok (Err e) f p = p

pub returns-clause-machine : goal.returns-clause-machine
returns-clause-machine c =
    let kind = c.args.kind in
    let key = c.args.key.now in
    let e = tree_of c.args.expr.now in
    let routine = c.in_ok-routine.routine in
    let of = c.in_ok-routine.ensures {u = tt} in
    if_ok c.begin.result (λ m is. is ∙ (ap (λ k. started k (routine_asks routine)) of.key ∙ ap (started key) (routine_computes kind key e routine of))) c.begin.ensures.machine

use Rattle.std.proofs.Common.{◌≡◌, ◌∷◌}
use Rattle.carte_task.proofs.Filling.{fill_step, fill_new}
use Rattle.carte_task.proofs.progress.fill.Goals as goal

pub loop-name-preserved : goal.loop-name-preserved
loop-name-preserved c =
    let copied : c.loop-name.rest.now ≡ c.in_ok-copy.field-0 ∷ c.in-Some.later.now = rw c.in_ok-copy.ensures c.in-Some.ensures.cases.0
    in fill_step c.as_slice-name-items.result.now c.args.names.now c.args.values c.in-Some.later.now c.loop-name.rest.now c.loop-name.name-index c.name-item.result c.in_ok-copy.field-0 c.loop-name.answers.entries c.put.new.answers.entries c.loop-name-test.true c.name-item.is copied c.loop-name.invariant (c.in_ok-put.ensures {u = tt})

pub put-requires : goal.put-requires
put-requires c =
    let copied : c.loop-name.rest.now ≡ c.in_ok-copy.field-0 ∷ c.in-Some.later.now = rw c.in_ok-copy.ensures c.in-Some.ensures.cases.0
    in fill_new c.as_slice-name-items.result.now c.args.names.now c.args.values c.in-Some.later.now c.loop-name.rest.now c.loop-name.name-index c.name-item.result c.in_ok-copy.field-0 c.loop-name.answers.entries c.requires.names c.loop-name-test.true c.name-item.is copied c.loop-name.invariant

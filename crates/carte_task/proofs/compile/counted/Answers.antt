use Rattle.std.proofs.Common.{◌+◌, ◌<◌, ◌≤◌, length, get_or, ap, sym, ◌∙◌, arith}
use Rattle.carte_task.specs.Coding.{count}
use Rattle.carte_task.proofs.Shapes.{args_view, count_more, count_all, call_arg}
use Rattle.carte_task.proofs.compile.counted.Goals as goal

pub loop-arg-preserved : goal.loop-arg-preserved
loop-arg-preserved c =
    let within : c.loop-arg.arg-index < length c.args.args.now.items.items = omega (arith, c.loop-arg-test.true, ap length c.deref-arg-items.ensures.value) in
    count_more c.args.args.now.items.items c.loop-arg.arg-index c.arg-item.result c.loop-arg.count c.in-Some.count within (c.arg-item.is ∙ ap (λ xs. get_or xs c.loop-arg.arg-index c.arg-item.result) c.deref-arg-items.ensures.value) c.loop-arg.invariant ((c.in-Some.ensures {u = tt}).1 ∙ ap (λ n. c.loop-arg.count + n) c.width.ensures)

pub returns : goal.returns
returns c =
    let all : length c.args.args.now.items.items ≤ c.loop-arg.arg-index = omega (arith, c.loop-arg-test.false, ap length c.deref-arg-items.ensures.value) in
    count_all c.args.args.now.items.items c.loop-arg.arg-index c.loop-arg.count all c.loop-arg.invariant ∙ ap count (sym (args_view c.args.args.now))

pub width-requires : goal.width-requires
width-requires c =
    let within : c.loop-arg.arg-index < length c.args.args.now.items.items = omega (arith, c.loop-arg-test.true, ap length c.deref-arg-items.ensures.value) in
    call_arg c.args.args.now c.loop-arg.arg-index c.arg-item.result c.requires within (c.arg-item.is ∙ ap (λ xs. get_or xs c.loop-arg.arg-index c.arg-item.result) c.deref-arg-items.ensures.value)

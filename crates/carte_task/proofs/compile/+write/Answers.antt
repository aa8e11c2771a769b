use Rattle.std.proofs.Common.{◌<◌, ◌≤◌, ◌++◌, ◌∷◌, [], length, get_or, ap, sym, ◌∙◌, append-nil, append_assoc, subst, rules, arith, ◌≡◌}
use Rattle.carte_task.specs.declared.code.Instr.TheVariants as i
use Rattle.carte_task.specs.Coding.{code_of, code_of_args}
use Rattle.carte_tree.specs.Code.{tree_of, args_tree}
use Rattle.carte_tree.specs.Formula.{AreCallArgs}
use Rattle.carte_tree.specs.declared.expr.Args.{the_lemmas}
use Rattle.std.proofs.lemmas.Grind.{common_steps}
use Rattle.carte_task.proofs.Shapes.{args_view, plain_on, choice_written, choice_on, args_more, args_all, steps_more, steps_all, rest_written, more_level, are_as_many, then_written, args_left, steps_left, arg_here, step_here}
use Rattle.carte_task.proofs.compile.+write.Goals as goal
use Rattle.carte_task.proofs.compile.+write.Goals.{write_then-in_default-via-then-as_slice-lt1, write_then-in_default-via-else-as_slice-lt1+else-this-lt2}
use Rattle.carte_task.proofs.compile.+write.Goals.{write_choice-in_default-via-then-as_slice-lt3, write_choice-in_default-via-else-as_slice-lt3+else-this-lt4}

pub write_args-loop-arg-preserved : goal.write_args-loop-arg-preserved
write_args-loop-arg-preserved t c =
    let within : c.loop-arg.arg-index < length c.args.args.now.items.items = omega (arith, c.loop-arg-test.true, ap length c.deref-arg-items.ensures.value) in
    (args_more c.args.args.now.items.items c.loop-arg.arg-index c.arg-item.result c.args.code.now.items c.loop-arg.code.items c.write_arg.new.code.items within (c.arg-item.is ∙ ap (λ xs. get_or xs c.loop-arg.arg-index c.arg-item.result) c.deref-arg-items.ensures.value) c.loop-arg.invariant.0 (c.in_ok-write_arg.ensures {u = tt}), args_left c.args.args.now.items.items c.loop-arg.arg-index c.arg-item.result within c.loop-arg.invariant.1)

pub write_args-returns : goal.write_args-returns
write_args-returns t c =
    let all : length c.args.args.now.items.items ≤ c.loop-arg.arg-index = omega (arith, c.loop-arg-test.false, ap length c.deref-arg-items.ensures.value) in
    args_all c.args.args.now.items.items c.loop-arg.arg-index c.args.code.now.items c.loop-arg.code.items all c.loop-arg.invariant.0 ∙ ap (λ xs. c.args.code.now.items ++ code_of_args xs) (sym (args_view c.args.args.now))

pub write_call-returns-in-Plain : goal.write_call-returns-in-Plain
write_call-returns-in-Plain t c = plain_on c.write_plain.result c.args.func (args_tree c.args.args.now) c.args.code.now.items c.write_plain.new.code.items (c.in-Plain.ensures {u = tt}) c.write_plain.ensures

pub write_rest-loop-op-preserved : goal.write_rest-loop-op-preserved
write_rest-loop-op-preserved t c =
    let all = c.args.rest.now.more.items in
    let x = c.loop-op-item.result in
    let within : c.loop-op.op-index < length all = omega (arith, c.loop-op-test.true, ap length c.deref-op-items.ensures.value) in
    let written = c.in_ok-write_step-2.ensures {u = tt} ∙ sym (append_assoc c.loop-op.code.items (code_of (tree_of x.1)) (i.Apply x.0 ∷ [])) in
    (steps_more all c.loop-op.op-index x c.write_step.new.code.items c.loop-op.code.items c.write_step-in-loop-op.new.code.items within (c.loop-op-item.is ∙ ap (λ xs. get_or xs c.loop-op.op-index x) c.deref-op-items.ensures.value) c.loop-op.invariant.0 written, steps_left all c.loop-op.op-index x within c.loop-op.invariant.1)

pub write_rest-returns : goal.write_rest-returns
write_rest-returns t c =
    let all : length c.args.rest.now.more.items ≤ c.loop-op.op-index = omega (arith, c.loop-op-test.false, ap length c.deref-op-items.ensures.value) in
    rest_written c.args.rest.now c.args.code.now.items c.write_step.new.code.items c.loop-op.code.items (c.in_ok-write_step.ensures {u = tt}) (steps_all c.args.rest.now.more.items c.loop-op.op-index c.write_step.new.code.items c.loop-op.code.items all c.loop-op.invariant.0)

pub write_choice-returns : goal.write_choice-returns
write_choice-returns t c =
    let at = λ (d : _) (n : _). ap (λ xs. get_or xs n d) c.as_slice.ensures.value in
    choice_written c.join.result c.args.args.now c.condition-item.result c.first-item.result c.other-item.result c.in_ok-condition.condition.items c.in_ok-first.first.items c.in_ok-other.other.items c.args.code.now.items c.join.new.code.items (c.condition-item.is ∙ at c.condition-item.result 0) (c.first-item.is ∙ at c.first-item.result 1) (c.other-item.is ∙ at c.other-item.result 2) (c.in_ok-condition.ensures {u = tt}) (c.in_ok-first.ensures {u = tt}) (c.in_ok-other.ensures {u = tt}) c.join.ensures

pub write_call-returns-in-Choice : goal.write_call-returns-in-Choice
write_call-returns-in-Choice t c = choice_on c.write_choice.result c.args.func (args_tree c.args.args.now) c.args.code.now.items c.write_choice.new.code.items (c.in-Choice.ensures {u = tt}) c.write_choice.ensures

pub write_choice-unreachable-requires : goal.write_choice-unreachable-requires
write_choice-unreachable-requires t c =
    let many : length c.args.args.now.items.items ≡ 3 = are_as_many 3 c.args.args.now c.requires.three in
    elim c.in_default.branch [
      | write_choice-in_default-via-then-as_slice-lt3 w ↦ search (rules, many)
      | write_choice-in_default-via-else-as_slice-lt3+else-this-lt4 w ↦ search (rules, many)
    ]

pub write_then-unreachable-requires : goal.write_then-unreachable-requires
write_then-unreachable-requires t c = let many : length c.args.args.now.items.items ≡ 1 = are_as_many 1 c.args.args.now c.requires.single in
    elim c.in_default.branch [
      | write_then-in_default-via-then-as_slice-lt1 w ↦ search (rules, many)
      | write_then-in_default-via-else-as_slice-lt1+else-this-lt2 w ↦ search (rules, many)
    ]

pub write_then-returns : goal.write_then-returns
write_then-returns t c = then_written c.put.result c.args.args.now c.operand-item.result c.args.last c.args.code.now.items c.write_arg.new.code.items c.put.new.code.items (c.operand-item.is ∙ ap (λ xs. get_or xs 0 c.operand-item.result) c.as_slice.ensures.value) (c.in_ok-write_arg.ensures {u = tt}) c.put.ensures

pub write_args-loop-arg-init : goal.write_args-loop-arg-init
write_args-loop-arg-init t c = (sym (append-nil c.args.code.now.items), subst AreCallArgs (args_view c.args.args.now) c.requires)

pub write_rest-loop-op-init : goal.write_rest-loop-op-init
write_rest-loop-op-init t c = (sym (append-nil c.write_step.new.code.items), more_level c.args.rest.now c.requires)

pub write_args-write_arg-requires : goal.write_args-write_arg-requires
write_args-write_arg-requires t c =
    let within : c.loop-arg.arg-index < length c.args.args.now.items.items = omega (arith, c.loop-arg-test.true, ap length c.deref-arg-items.ensures.value) in
    let is : c.arg-item.result ≡ get_or c.args.args.now.items.items c.loop-arg.arg-index c.arg-item.result = c.arg-item.is ∙ ap (λ xs. get_or xs c.loop-arg.arg-index c.arg-item.result) c.deref-arg-items.ensures.value in
    (first_of (search (rules, common_steps), grind (arith, common_steps), search (rules, the_lemmas), search (rules, the_lemmas, common_steps, is, within)), arg_here c.args.args.now.items.items c.loop-arg.arg-index c.arg-item.result c.loop-arg.invariant.1 within is)

pub write_rest-write_step-requires-in-loop-op : goal.write_rest-write_step-requires-in-loop-op
write_rest-write_step-requires-in-loop-op t c =
    let within : c.loop-op.op-index < length c.args.rest.now.more.items = omega (arith, c.loop-op-test.true, ap length c.deref-op-items.ensures.value) in
    let is : c.loop-op-item.result ≡ get_or c.args.rest.now.more.items c.loop-op.op-index c.loop-op-item.result = c.loop-op-item.is ∙ ap (λ xs. get_or xs c.loop-op.op-index c.loop-op-item.result) c.deref-op-items.ensures.value in
    (first_of (search (rules, common_steps), grind (arith, common_steps), search (rules, the_lemmas), search (rules, the_lemmas, common_steps, is, within)), step_here c.args.rest.now.more.items c.loop-op.op-index c.loop-op-item.result c.loop-op.invariant.1 within is)

use Rattle.std.proofs.Common.{◌≡◌, ◌≤◌, ◌<◌, length, get_or, arith, rules}
use Rattle.carte_tree.specs.Tree.{args_of}
use Rattle.carte_tree.specs.Code.{rest_steps, args_trees}
use Rattle.carte_tree.specs.Formula.{steps_mentions, args_mentions}
use Rattle.carte_value.specs.Firsts.{seen_all}
use Rattle.std.proofs.lemmas.Grind.{common_steps}
use Rattle.carte_tree.specs.declared.expr.Arg.{the_lemmas}
use Rattle.carte_tree.proofs.Once.{chain_seen, chain_steps, rest_seen, steps_turn, args_seen, args_turn}
use Rattle.carte_tree.proofs.mentioned.+refs.Goals as goal

pub see_args-returns : goal.see_args-returns
see_args-returns t c =
    let all : length c.args.args.now.items.items ≤ c.loop-arg.arg-index = search rules in
    args_seen c.args.args.now c.loop-arg.arg-index c.args.seen.now c.loop-arg.seen all c.loop-arg.invariant.0

pub see_chain-returns : goal.see_chain-returns
see_chain-returns t c = chain_seen c.see_rest.result c.args.chain.now c.args.seen.now c.see_expr.new.seen c.see_rest.new.seen (c.in_ok-see_expr.ensures {u = tt}) c.see_rest.ensures

pub see_chain-see_rest-requires : goal.see_chain-see_rest-requires
see_chain-see_rest-requires t c = (first_of (search (rules, common_steps), grind (arith, common_steps), search (rules, the_lemmas), search (rules, the_lemmas, common_steps)), chain_steps c.args.chain.now c.requires)

pub see_rest-loop-operand-init : goal.see_rest-loop-operand-init
see_rest-loop-operand-init t c = rest_seen c.args.rest.now c.args.seen.now c.see_expr.new.seen c.requires (c.in_ok-see_expr.ensures {u = tt})

pub see_rest-loop-operand-preserved : goal.see_rest-loop-operand-preserved
see_rest-loop-operand-preserved t c =
    let all = c.args.rest.now.more.items in
    let within : c.loop-operand.operand-index < length all = search rules in
    let is : c.loop-operand-item.result ≡ get_or all c.loop-operand.operand-index c.loop-operand-item.result = search rules in
    steps_turn all c.loop-operand.operand-index c.loop-operand-item.result c.loop-operand.seen c.see_expr-in-loop-operand.new.seen (seen_all c.args.seen.now (steps_mentions (rest_steps c.args.rest.now))) within is (c.in_ok-see_expr-2.ensures {u = tt}) c.loop-operand.invariant

pub see_args-loop-arg-preserved : goal.see_args-loop-arg-preserved
see_args-loop-arg-preserved t c =
    let all = c.args.args.now.items.items in
    let within : c.loop-arg.arg-index < length all = search rules in
    let is : c.arg-item.result ≡ get_or all c.loop-arg.arg-index c.arg-item.result = search rules in
    args_turn all c.loop-arg.arg-index c.arg-item.result c.loop-arg.seen c.see_arg.new.seen (seen_all c.args.seen.now (args_mentions (args_of (args_trees all)))) within is (c.in_ok-see_arg.ensures {u = tt}) c.loop-arg.invariant

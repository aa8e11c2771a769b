use Rattle.std.proofs.Common.{◌≡◌, ◌<◌, ◌≤◌, ◌++◌, ◌∷◌, [], length, get_or, ◌∙◌, append-nil, arith, rules}
use Rattle.std.proofs.lemmas.Grind.{common_steps}
use Rattle.carte_tree.specs.Tree.{args_of}
use Rattle.carte_tree.specs.Code.{args_trees}
use Rattle.carte_tree.specs.Printed.{args_printed}
use Rattle.carte_tree.proofs.Parts.{on_ok, begins_on, chain_printed}
use Rattle.carte_tree.proofs.Commas.{comma, comma_some, comma_none, args_ended, args_on, args_left}
use Rattle.carte_tree.proofs.printer.+print.Goals as goal
use Rattle.carte_tree.proofs.printer.+print.Goals.{print_args-then-at-gt0+in_ok-put_byte, print_args-else-at-gt0}

pub print_chain-returns-clause-bytes : goal.print_chain-returns-clause-bytes
print_chain-returns-clause-bytes t c =
    on_ok c.print_rest.result c.print_rest.ensures.bytes (λ e. e ∙ chain_printed c.args.chain.now c.rank.result c.args.out.now.items c.print_held.new.out.items c.rank.ensures c.in_ok-print_held.ensures.bytes)

pub print_neg-returns-clause-front : goal.print_neg-returns-clause-front
print_neg-returns-clause-front t c = begins_on c.args.out.now.items c.put_byte.new.out.items c.print_held.new.out.items c.put_byte.ensures.front c.print_held.ensures.front

pub print_chain-returns-clause-front : goal.print_chain-returns-clause-front
print_chain-returns-clause-front t c = begins_on c.args.out.now.items c.print_held.new.out.items c.print_rest.new.out.items c.print_held.ensures.front c.print_rest.ensures.front

pub print_step-returns-clause-front : goal.print_step-returns-clause-front
print_step-returns-clause-front t c = begins_on c.args.out.now.items c.put.new.out.items c.print_held.new.out.items c.put.ensures.front c.print_held.ensures.front

pub print_call-returns-in_err-put_byte-clause-front : goal.print_call-returns-in_err-put_byte-clause-front
print_call-returns-in_err-put_byte-clause-front t c = begins_on c.args.out.now.items c.put.new.out.items c.put_byte.new.out.items c.put.ensures.front c.put_byte.ensures.front

pub print_call-returns-in_err-print_args-clause-front : goal.print_call-returns-in_err-print_args-clause-front
print_call-returns-in_err-print_args-clause-front t c = begins_on c.args.out.now.items c.put_byte.new.out.items c.print_args.new.out.items (begins_on c.args.out.now.items c.put.new.out.items c.put_byte.new.out.items c.put.ensures.front c.put_byte.ensures.front) c.print_args.ensures.front

pub print_call-returns-clause-front : goal.print_call-returns-clause-front
print_call-returns-clause-front t c = begins_on c.args.out.now.items c.print_args.new.out.items c.put_byte-2.new.out.items (begins_on c.args.out.now.items c.put_byte.new.out.items c.print_args.new.out.items (begins_on c.args.out.now.items c.put.new.out.items c.put_byte.new.out.items c.put.ensures.front c.put_byte.ensures.front) c.print_args.ensures.front) c.put_byte-2.ensures.front

pub print_held-returns-in_err-print_expr-clause-front : goal.print_held-returns-in_err-print_expr-clause-front
print_held-returns-in_err-print_expr-clause-front t c = begins_on c.args.out.now.items c.put_byte.new.out.items c.print_expr-2.new.out.items c.put_byte.ensures.front c.print_expr-2.ensures.front

pub print_held-returns-clause-front : goal.print_held-returns-clause-front
print_held-returns-clause-front t c = begins_on c.args.out.now.items c.print_expr-2.new.out.items c.put_byte-2.new.out.items (begins_on c.args.out.now.items c.put_byte.new.out.items c.print_expr-2.new.out.items c.put_byte.ensures.front c.print_expr-2.ensures.front) c.put_byte-2.ensures.front

pub print_args-returns-in_err-print_arg-clause-front : goal.print_args-returns-in_err-print_arg-clause-front
print_args-returns-in_err-print_arg-clause-front t c =
    let behind : c.if-at-gt0.out.items ≡ c.loop-at.out.items ++ comma c.loop-at.at = elim c.if-at-gt0.branch [
      | print_args-then-at-gt0+in_ok-put_byte w ↦ (let k : 44 ∷ [] ≡ comma c.loop-at.at = comma_some c.loop-at.at (omega arith) in cc w.in_ok-put_byte.ensures.bytes)
      | print_args-else-at-gt0 w ↦ (let k : [] ≡ comma c.loop-at.at = comma_none c.loop-at.at (omega arith) in let n = append-nil c.loop-at.out.items in cc)
    ] in
    begins_on c.args.out.now.items c.if-at-gt0.out.items c.print_arg.new.out.items (begins_on c.args.out.now.items c.loop-at.out.items c.if-at-gt0.out.items c.loop-at.invariant.2 (comma c.loop-at.at, behind)) c.print_arg.ensures.front

pub print_args-loop-at-preserved : goal.print_args-loop-at-preserved
print_args-loop-at-preserved t c =
    let behind : c.if-at-gt0.out.items ≡ c.loop-at.out.items ++ comma c.loop-at.at = elim c.if-at-gt0.branch [
      | print_args-then-at-gt0+in_ok-put_byte w ↦ (let k : 44 ∷ [] ≡ comma c.loop-at.at = comma_some c.loop-at.at (omega arith) in cc w.in_ok-put_byte.ensures.bytes)
      | print_args-else-at-gt0 w ↦ (let k : [] ≡ comma c.loop-at.at = comma_none c.loop-at.at (omega arith) in let n = append-nil c.loop-at.out.items in cc)
    ] in
    let items = c.args.args.now.items.items in
    let within : c.loop-at.at < length items = first_of (search rules, grind (arith, common_steps)) in
    let is : c.arg-item.result ≡ get_or items c.loop-at.at c.arg-item.result = first_of (search rules, grind (arith, common_steps)) in (
      args_on items c.loop-at.at c.arg-item.result (c.args.out.now.items ++ args_printed (args_of (args_trees items))) c.loop-at.out.items c.if-at-gt0.out.items c.print_arg.new.out.items within is behind c.in_ok-print_arg.ensures.bytes c.loop-at.invariant.0,
      args_left c.args.func items c.loop-at.at c.arg-item.result within is c.loop-at.invariant.1,
      begins_on c.args.out.now.items c.if-at-gt0.out.items c.print_arg.new.out.items (begins_on c.args.out.now.items c.loop-at.out.items c.if-at-gt0.out.items c.loop-at.invariant.2 (comma c.loop-at.at, behind)) c.print_arg.ensures.front,
    )

pub print_args-returns-clause-bytes : goal.print_args-returns-clause-bytes
print_args-returns-clause-bytes t c =
    let all : length c.args.args.now.items.items ≤ c.loop-at.at = first_of (search rules, grind (arith, common_steps)) in
    args_ended c.args.args.now c.loop-at.at c.args.out.now.items c.loop-at.out.items all c.loop-at.invariant.0

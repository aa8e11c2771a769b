use Rattle.std.proofs.Common.{◌≡◌, true, false, length, nat_eq, ap, sym, ◌∙◌}
use Rattle.std.specs.List.{list_all}
use Rattle.carte_tree.specs.Code.{arg_tree}
use Rattle.carte_task.specs.Forms.{is_one, are_ones}
use Rattle.carte_task.proofs.Shapes.{ones_by_length, not_ones, args_view}
use Rattle.carte_task.proofs.compile.are_ones.Goals as goal

pub returns-then-ones : goal.returns-then-ones
returns-then-ones c =
    let all : list_all (λ x. is_one (arg_tree x)) c.args.args.now.items.items ≡ true = ap (λ xs. list_all (λ x. is_one (arg_tree x)) xs) (sym c.as_slice.ensures.value) ∙ sym c.all_ones-ones.ensures ∙ c.if-ones.true in
    let len : c.len.result ≡ length c.args.args.now.items.items = c.len.ensures ∙ sym c.as_slice.ensures.len ∙ ap length c.as_slice.ensures.value in
    ap (λ n. nat_eq n c.args.count) len ∙ ones_by_length c.args.count c.args.args.now.items.items all ∙ ap (are_ones c.args.count) (sym (args_view c.args.args.now))

pub returns-else-ones : goal.returns-else-ones
returns-else-ones c =
    let all : list_all (λ x. is_one (arg_tree x)) c.args.args.now.items.items ≡ false = ap (λ xs. list_all (λ x. is_one (arg_tree x)) xs) (sym c.as_slice.ensures.value) ∙ sym c.all_ones-ones.ensures ∙ c.if-ones.false in
    c.if-ones.false ∙ not_ones c.args.count c.args.args.now.items.items all ∙ ap (are_ones c.args.count) (sym (args_view c.args.args.now))

use Rattle.std.proofs.Common.{List, ap, ap₂, ◌∙◌}
use Rattle.carte_tree.specs.declared.expr.Arg.{Arg as CodeArg}
use Rattle.carte_tree.specs.Tree.{Arg, call, args_of, arg, no_arg}
use Rattle.carte_tree.specs.Code.{args_trees}
use Rattle.carte_generate.proofs.Formulas.{two_items}
use Rattle.carte_generate.proofs.formula.of_two.Goals as goal

pub returns : goal.returns
returns c =
    c.call_with.ensures
    ∙ ap (λ (xs : List CodeArg). call c.args.func (args_of (args_trees xs))) (two_items _ _ _ _ _ c.in_ok-items.ensures.items c.in_ok-push.ensures.items c.in_ok-push-2.ensures.items)
    ∙ ap₂ (λ (x y : Arg). call c.args.func (arg x (arg y no_arg))) c.reference.ensures c.reference-2.ensures

use Rattle.std.proofs.Common.{◌≡◌, ap₂, ◌∙◌}
use Rattle.carte_tree.specs.declared.expr.Func.TheVariants.{Max, Min}
use Rattle.carte_tree.specs.Tree.{Tree}
use Rattle.carte_tree.specs.Code.{tree_of, chain_tree}
use Rattle.carte_generate.specs.Generated.{difference, of_two}
use Rattle.carte_generate.proofs.Formulas.{difference_is_expr, difference_has_names, is_difference, told, told_expr, told_names}
use Rattle.carte_generate.proofs.formula.difference.Goals as goal

pub returns-clause-formula : goal.returns-clause-formula
returns-clause-formula c =
    let least : tree_of c.in_ok-least.least ≡ of_two Min c.args.a c.args.b = c.in_ok-least.ensures ∙ ap₂ (of_two Min) c.in_ok-copy.ensures c.in_ok-copy-2.ensures in
    let greatest : tree_of c.in_ok-greatest.greatest ≡ of_two Max c.args.a c.args.b = c.in_ok-greatest.ensures in
    told c.chain_of.result (chain_tree c.minus.result) (difference c.args.a c.args.b) (c.minus.ensures ∙ is_difference c.args.a c.args.b _ _ greatest least) c.chain_of.ensures

pub returns-clause-expr : goal.returns-clause-expr
returns-clause-expr c =
    let least : tree_of c.in_ok-least.least ≡ of_two Min c.args.a c.args.b = c.in_ok-least.ensures ∙ ap₂ (of_two Min) c.in_ok-copy.ensures c.in_ok-copy-2.ensures in
    let greatest : tree_of c.in_ok-greatest.greatest ≡ of_two Max c.args.a c.args.b = c.in_ok-greatest.ensures in
    told_expr c.chain_of.result (difference c.args.a c.args.b) (difference_is_expr c.args.a c.args.b)
    (told c.chain_of.result (chain_tree c.minus.result) (difference c.args.a c.args.b) (c.minus.ensures ∙ is_difference c.args.a c.args.b _ _ greatest least) c.chain_of.ensures)

pub returns-clause-names : goal.returns-clause-names
returns-clause-names c =
    let least : tree_of c.in_ok-least.least ≡ of_two Min c.args.a c.args.b = c.in_ok-least.ensures ∙ ap₂ (of_two Min) c.in_ok-copy.ensures c.in_ok-copy-2.ensures in
    let greatest : tree_of c.in_ok-greatest.greatest ≡ of_two Max c.args.a c.args.b = c.in_ok-greatest.ensures in
    told_names c.chain_of.result (difference c.args.a c.args.b) (difference_has_names c.args.a c.args.b c.requires.first c.requires.second)
    (told c.chain_of.result (chain_tree c.minus.result) (difference c.args.a c.args.b) (c.minus.ensures ∙ is_difference c.args.a c.args.b _ _ greatest least) c.chain_of.ensures)

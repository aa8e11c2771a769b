use Rattle.std.proofs.Common.{◌≡◌, [], ap, ◌∙◌, rules}
use Rattle.carte_tree.specs.Code.{tree_of}
use Rattle.carte_value.specs.Firsts.{seen_all}
use Rattle.carte_tree.specs.Formula.{mentions}
use Rattle.carte_tree.proofs.Once.{firsts_all}
use Rattle.carte_topo.proofs.references.references.Goals as goal

pub returns-in-Ok : goal.returns-in-Ok
returns-in-Ok c =
    let none : c.new-seen.result ≡ [] = search rules in
    let seen : c.see_expr.new.seen ≡ seen_all c.new-seen.result (mentions (tree_of c.args.formula.now)) = search rules in
    seen ∙ ap (λ ks. seen_all ks (mentions (tree_of c.args.formula.now))) none ∙ firsts_all [] (mentions (tree_of c.args.formula.now))

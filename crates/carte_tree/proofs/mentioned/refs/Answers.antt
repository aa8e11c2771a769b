use Rattle.std.proofs.Common.{◌≡◌, [], rules}
use Rattle.carte_tree.specs.Code.{tree_of}
use Rattle.carte_value.specs.Firsts.{seen_all}
use Rattle.carte_tree.specs.Formula.{mentions}
use Rattle.carte_tree.proofs.Once.{listed_firsts}
use Rattle.carte_tree.proofs.mentioned.refs.Goals as goal

pub returns : goal.returns
returns c =
    let none : c.new-seen.result ≡ [] = search rules in
    let seen : c.see_expr.new.seen ≡ seen_all c.new-seen.result (mentions (tree_of c.args.expr.now)) = search rules in
    listed_firsts c.list.result c.see_expr.new.seen c.new-seen.result (mentions (tree_of c.args.expr.now)) none seen c.list.ensures

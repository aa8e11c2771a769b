-- The trees that the code's formulas stand for.
use Rattle.std.specs.Prelude.{List, ◌∷◌, map}
use Rattle.carte_tree.specs.Tree.{Op, Tree, number, text, ref, neg, chain, call, Steps, Args, Arg, one, cells, Term, steps_of, args_of}
use Rattle.carte_tree.specs.declared.expr.Expr.{Expr, fold-Expr}
use Rattle.carte_tree.specs.declared.expr.Arg.TheOpen.{Expr-F, Chain-F, Rest-F, Args-F, Arg-F}
use Rattle.carte_tree.specs.declared.expr.Chain.{Chain, fold-Chain}
use Rattle.carte_tree.specs.declared.expr.Rest.{Rest, fold-Rest}
use Rattle.carte_tree.specs.declared.expr.Args.{Args as CodeArgs, fold-Args}
use Rattle.carte_tree.specs.declared.expr.Arg.{Arg as CodeArg, fold-Arg}

abbrev pub term_of : Op × Tree → Term
term_of p = record { op = p.0; operand = p.1 }

abbrev pub expr_layer : Expr-F Arg Tree Args Tree Steps → Tree
expr_layer (Expr-F.Number n) = number n
expr_layer (Expr-F.Text t) = text t
expr_layer (Expr-F.Ref k) = ref k
expr_layer (Expr-F.Neg b) = neg b.value
expr_layer (Expr-F.Chain b) = b.value
expr_layer (Expr-F.Call f xs) = call f xs

abbrev pub chain_layer : Chain-F Arg Tree Args Tree Steps → Tree
chain_layer c = chain c.level c.first c.rest

abbrev pub rest_layer : Rest-F Arg Tree Args Tree Steps → Steps
rest_layer r = steps_of (term_of r.first ∷ map term_of r.more.items)

abbrev pub args_layer : Args-F Arg Tree Args Tree Steps → Args
args_layer a = args_of a.items.items

abbrev pub arg_layer : Arg-F Arg Tree Args Tree Steps → Arg
arg_layer (Arg-F.One e) = one e
arg_layer (Arg-F.Cells a) = cells a

abbrev pub tree_of : Expr → Tree
tree_of = fold-Expr Arg Tree Args Tree Steps arg_layer expr_layer args_layer chain_layer rest_layer

abbrev pub chain_tree : Chain → Tree
chain_tree = fold-Chain Arg Tree Args Tree Steps arg_layer expr_layer args_layer chain_layer rest_layer

abbrev pub rest_steps : Rest → Steps
rest_steps = fold-Rest Arg Tree Args Tree Steps arg_layer expr_layer args_layer chain_layer rest_layer

abbrev pub args_tree : CodeArgs → Args
args_tree = fold-Args Arg Tree Args Tree Steps arg_layer expr_layer args_layer chain_layer rest_layer

abbrev pub arg_tree : CodeArg → Arg
arg_tree = fold-Arg Arg Tree Args Tree Steps arg_layer expr_layer args_layer chain_layer rest_layer

abbrev pub pairs_of : List (Op × Expr) → List (Op × Tree)
pairs_of = map (λ p. (p.0, tree_of p.1))

abbrev pub terms_of : List (Op × Expr) → List Term
terms_of ps = map term_of (pairs_of ps)

abbrev pub args_trees : List CodeArg → List Arg
args_trees = map arg_tree

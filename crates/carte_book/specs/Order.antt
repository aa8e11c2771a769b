-- Rules as a book holds them.
use Rattle.std.specs.Prelude.{ℕ, List, map}
use Rattle.carte_tree.specs.Tree.{Tree}
use Rattle.carte_tree.specs.Code.{tree_of}
use Rattle.carte_tree.specs.Formula.{IsExpr}
use Rattle.carte_book.specs.declared.order.HeldRule.{HeldRule}

abbrev pub rule_view : HeldRule → List ℕ × Tree
rule_view r = (r.name.now, tree_of r.formula.now)

abbrev pub rules_view : List HeldRule → List (List ℕ × Tree)
rules_view rs = map rule_view rs

abbrev pub names_of : List HeldRule → List (List ℕ)
names_of rs = map (λ r. r.name.now) rs

abbrev pub IsFormulaOf : HeldRule → Type 0
IsFormulaOf r = IsExpr (tree_of r.formula.now)

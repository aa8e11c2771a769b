-- The formulas of the rules are as reading makes them.
use Rattle.std.proofs.Common.{◌≡◌, ℕ, true, List, [], ◌∷◌, ◌++◌, Result, Ok, Err, IfOk, OnOk, ap, ap₂, sym, ◌∙◌, subst, rules}
use Rattle.carte_name.specs.declared.kind.Kind.TheVariants.{Rules}
use Rattle.carte_name.specs.Names.{is_rule_name}
use Rattle.carte_tree.specs.declared.expr.Expr.{Expr}
use Rattle.carte_tree.specs.declared.expr.Func.TheVariants.{Max, Min}
use Rattle.carte_tree.specs.Tree.{Tree}
use Rattle.carte_tree.specs.Code.{tree_of}
use Rattle.carte_tree.specs.Formula.{IsExpr, HasNames}
use Rattle.carte_generate.specs.Generated.{difference, minus, of_two}

pub difference_is_expr : (a b : List ℕ) → IsExpr (difference a b)
unfolding difference
difference_is_expr a b = search rules

pub difference_has_names : (a b : List ℕ) → is_rule_name a ≡ true → is_rule_name b ≡ true → HasNames Rules (difference a b)
unfolding difference
difference_has_names a b first second = search rules

pub is_difference : (a b : List ℕ) (d e : Tree) → d ≡ of_two Max a b → e ≡ of_two Min a b → minus d e ≡ difference a b
unfolding difference
is_difference a b d e greatest least = ap₂ minus greatest least

-- what is told of a tree is told of the formula that is this tree
pub told : {E : Type 0} (r : Result Expr E) (t d : Tree) → t ≡ d → IfOk r (λ e. tree_of e ≡ t) → IfOk r (λ e. tree_of e ≡ d)
told (Ok e) t d same h = h ∙ same
told (Err x) t d same h = tt

pub told_expr : {E : Type 0} (r : Result Expr E) (t : Tree) → IsExpr t → IfOk r (λ e. tree_of e ≡ t) → IfOk r (λ e. IsExpr (tree_of e))
told_expr (Ok e) t fits h = subst IsExpr (sym h) fits
told_expr (Err x) t fits h = tt

pub told_names : {E : Type 0} (r : Result Expr E) (t : Tree) → HasNames Rules t → IfOk r (λ e. tree_of e ≡ t) → IfOk r (λ e. HasNames Rules (tree_of e))
told_names (Ok e) t fits h = subst (HasNames Rules) (sym h) fits
told_names (Err x) t fits h = tt

pub sure : {A E P : Type 0} (r : Result A E) → P → OnOk r P
sure (Ok a) p = p
sure (Err e) p = tt

pub two_items : {X : Type 0} (none first both : List X) (x y : X) → none ≡ [] → first ≡ none ++ x ∷ [] → both ≡ first ++ y ∷ [] → both ≡ x ∷ y ∷ []
two_items {X = X} none first both x y n f b = b ∙ ap (λ (l : List X). l ++ y ∷ []) (f ∙ ap (λ (l : List X). l ++ x ∷ []) n)

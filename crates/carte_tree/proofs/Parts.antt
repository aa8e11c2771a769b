-- A chain and its parts.
use Rattle.std.proofs.Common.{ℕ, List, ◌∷◌, ◌≡◌, ◌++◌, ◌∙◌, ap, sym, append_assoc, rules, Result, Ok, Err, OnOk}
use Rattle.carte_value.specs.Lists.{Begins}
use Rattle.carte_tree.specs.Tree.{chain, rank, steps_of, args_of}
use Rattle.carte_tree.specs.Code.{terms_of, args_trees, tree_of, chain_tree, rest_steps, args_tree}
use Rattle.carte_tree.specs.declared.expr.Rest.{Rest}
use Rattle.carte_tree.specs.declared.expr.Args.{Args}
use Rattle.carte_tree.specs.Printed.{tight, in_brackets, printed, steps_printed}
use Rattle.carte_tree.specs.declared.expr.Chain.{Chain}
use Rattle.carte_tree.specs.declared.expr.Arg.{the_lemmas}

pub begins_on : {A : Type 0} (xs ys zs : List A) → Begins xs ys → Begins ys zs → Begins xs zs
begins_on xs ys zs (us, is) (vs, are) = (us ++ vs, are ∙ (ap (λ w. w ++ vs) is ∙ append_assoc xs us vs))

pub on_ok : {T E A B : Type 0} (r : Result T E) → OnOk r A → (A → B) → OnOk r B
on_ok (Ok x) h f = f h
on_ok (Err e) h f = tt

pub chain_is : (c : Chain) → chain_tree c ≡ chain c.level (tree_of c.first) (rest_steps c.rest)
chain_is c = search (rules, the_lemmas)

pub chain_printed : (c : Chain) (n : ℕ) (old out : List ℕ) → n ≡ rank c.level → out ≡ old ++ in_brackets (tight n (tree_of c.first)) (printed (tree_of c.first)) → out ++ steps_printed c.level (rest_steps c.rest) ≡ old ++ printed (chain_tree c)
chain_printed c n old out is h =
    ap (λ bs. bs ++ steps_printed c.level (rest_steps c.rest)) h
    ∙ ap (λ m. (old ++ in_brackets (tight m (tree_of c.first)) (printed (tree_of c.first))) ++ steps_printed c.level (rest_steps c.rest)) is
    ∙ append_assoc old (in_brackets (tight (rank c.level) (tree_of c.first)) (printed (tree_of c.first))) (steps_printed c.level (rest_steps c.rest))
    ∙ ap (λ e. old ++ printed e) (sym (chain_is c))

pub rest_out : (r : Rest) → rest_steps r ≡ steps_of (terms_of (r.first ∷ r.more.items))
rest_out r = search (rules, the_lemmas)

pub args_out : (a : Args) → args_tree a ≡ args_of (args_trees a.items.items)
args_out a = search (rules, the_lemmas)

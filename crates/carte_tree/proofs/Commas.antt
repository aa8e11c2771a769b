-- The arguments of a call as they are printed, one after the other.
use Rattle.std.proofs.Common.{ℕ, zero, suc, List, [], ◌∷◌, ◌++◌, ◌+◌, ◌≡◌, ◌<◌, ◌≤◌, length, drop, get_or, refl, ap, sym, ◌∙◌, subst, append_assoc, append-nil, arith}
use Rattle.std.proofs.lemmas.List.{drop_all, drop_more}
use Rattle.carte_tree.specs.declared.expr.Arg.{Arg}
use Rattle.carte_tree.specs.declared.expr.Args.{Args}
use Rattle.carte_tree.specs.declared.expr.Func.{Func}
use Rattle.carte_tree.specs.Tree.{no_arg, arg, args_of, Arg as ArgTree, Args as ArgTrees}
use Rattle.carte_tree.specs.Code.{arg_tree, args_tree, args_trees}
use Rattle.carte_tree.specs.Formula.{AreArgs}
use Rattle.carte_tree.specs.Printed.{args_printed, later_printed, arg_printed, from_printed}
use Rattle.carte_tree.proofs.Parts.{args_out}

-- what stands before the argument at a place
abbrev pub comma : ℕ → List ℕ
comma zero = []
comma (suc n) = 44 ∷ []

pub comma_some : (n : ℕ) → 0 < n → 44 ∷ [] ≡ comma n
comma_some zero h = absurd (let z : ⊥ = omega arith in z)
comma_some (suc n) h = refl

pub comma_none : (n : ℕ) → n ≤ 0 → [] ≡ comma n
comma_none zero h = refl
comma_none (suc n) h = absurd (let z : ⊥ = omega arith in z)

nothing : (n : ℕ) → from_printed n no_arg ≡ []
nothing zero = refl
nothing (suc n) = refl

from_next : (n : ℕ) (x : ArgTree) (xs : ArgTrees) → from_printed n (arg x xs) ≡ comma n ++ (arg_printed x ++ later_printed xs)
from_next zero x xs = refl
from_next (suc n) x xs = refl

-- all are printed
pub args_ended : (a : Args) (n : ℕ) (old out : List ℕ) → length a.items.items ≤ n → out ++ from_printed n (args_of (args_trees (drop n a.items.items))) ≡ old ++ args_printed (args_of (args_trees a.items.items)) → out ≡ old ++ args_printed (args_tree a)
args_ended a n old out all is =
    let none : from_printed n (args_of (args_trees (drop n a.items.items))) ≡ [] = ap (λ xs. from_printed n (args_of (args_trees xs))) (drop_all n a.items.items all) ∙ nothing n in
    sym (append-nil out) ∙ ap (λ bs. out ++ bs) (sym none) ∙ is ∙ ap (λ xs. old ++ args_printed xs) (sym (args_out a))

cut : (xs : List Arg) (i : ℕ) (x : Arg) → i < length xs → x ≡ get_or xs i x → drop i xs ≡ x ∷ drop (i + 1) xs
cut xs i x within is = drop_more xs i x within ∙ ap (λ y. y ∷ drop (i + 1) xs) (sym is)

-- one more is printed
turn_on : (i : ℕ) (x : ArgTree) (rest : ArgTrees) (all out mid new : List ℕ) → mid ≡ out ++ comma i → new ≡ mid ++ arg_printed x → out ++ from_printed i (arg x rest) ≡ all → new ++ from_printed (i + 1) rest ≡ all
turn_on i x rest all out mid new behind put left =
    let next : i + 1 ≡ suc i = omega arith in
    ap (λ n. new ++ from_printed n rest) next
    ∙ ap (λ bs. bs ++ later_printed rest) (put ∙ ap (λ bs. bs ++ arg_printed x) behind)
    ∙ append_assoc (out ++ comma i) (arg_printed x) (later_printed rest)
    ∙ append_assoc out (comma i) (arg_printed x ++ later_printed rest)
    ∙ ap (λ bs. out ++ bs) (sym (from_next i x rest))
    ∙ left

pub args_on : (xs : List Arg) (i : ℕ) (x : Arg) (all out mid new : List ℕ) → i < length xs → x ≡ get_or xs i x → mid ≡ out ++ comma i → new ≡ mid ++ arg_printed (arg_tree x)
    → out ++ from_printed i (args_of (args_trees (drop i xs))) ≡ all → new ++ from_printed (i + 1) (args_of (args_trees (drop (i + 1) xs))) ≡ all
args_on xs i x all out mid new within is behind put left =
    turn_on i (arg_tree x) (args_of (args_trees (drop (i + 1) xs))) all out mid new behind put (ap (λ ys. out ++ from_printed i (args_of (args_trees ys))) (sym (cut xs i x within is)) ∙ left)

pub args_left : (f : Func) (xs : List Arg) (i : ℕ) (x : Arg) → i < length xs → x ≡ get_or xs i x → AreArgs f (args_of (args_trees (drop i xs))) → AreArgs f (args_of (args_trees (drop (i + 1) xs)))
args_left f xs i x within is left =
    let here : AreArgs f (args_of (args_trees (x ∷ drop (i + 1) xs))) = subst (λ ys. AreArgs f (args_of (args_trees ys))) (cut xs i x within is) left in
    here.1

-- Calls and their instructions.
use Rattle.std.proofs.Common.{◌≡◌, ℕ, zero, suc, ◌+◌, ◌<◌, ◌≤◌, Bool, true, false, ◌&&◌, nat_eq, Result, Ok, Err, List, [], ◌∷◌, ◌++◌, length, map, take, drop, get_or, add-one, refl, ap, sym, ◌∙◌, append_assoc, append-nil, subst, rules, arith}
use Rattle.std.specs.Prelude.{OnOk, if◌then◌else◌}
use Rattle.std.proofs.Math.Seq.{drop-cons}
use Rattle.std.proofs.Math.Dec.{eqb-suc-zero, eqb-zero-suc, eqb-suc-suc}
use Rattle.std.proofs.lemmas.List.{take_more, map-append, take-append-drop}
use Rattle.std.proofs.Math.ListN.{drop_of_length-le}
use Rattle.std.specs.List.{list_all}
use Rattle.carte_tree.specs.Tree.{Tree, call, Args, no_arg, arg, Arg, one, cells, Term, steps_of, args_of}
use Rattle.carte_tree.specs.Formula.{IsExpr, AreSteps, AreArgs, IsArg, AreCallArgs, IsCallArg}
use Rattle.carte_tree.specs.Code.{arg_tree, args_tree, rest_steps, tree_of, term_of, pairs_of}
use Rattle.carte_tree.specs.declared.expr.Expr.{Expr}
use Rattle.carte_tree.specs.declared.expr.Op.{Op}
use Rattle.carte_tree.specs.declared.expr.Arg.{Arg as CodeArg}
use Rattle.carte_tree.specs.declared.expr.Args.{Args as CodeArgs, the_lemmas}
use Rattle.carte_tree.specs.declared.expr.Rest.{Rest}
use Rattle.carte_tree.specs.declared.expr.Func.{Func}
use Rattle.carte_tree.specs.declared.expr.Func.TheVariants as f
use Rattle.carte_task.specs.declared.code.Instr.{Instr}
use Rattle.carte_task.specs.declared.code.Instr.TheVariants as i
use Rattle.carte_task.specs.declared.compile.Form.{Form}
use Rattle.carte_task.specs.declared.compile.Form.TheVariants.{Choice, Indirect, Gather, Plain}
use Rattle.carte_task.specs.Coding.{count, count_arg, choice, code_of, code_of_steps, code_of_args, code_of_arg}
use Rattle.carte_task.specs.Forms.{form_of, are_ones, is_one, HaveLevel}

-- arguments and operands, item by item
pub args_view : (xs : CodeArgs) → args_tree xs ≡ args_of (map arg_tree xs.items.items)
args_view xs = search (rules, the_lemmas)

pub rest_view : (r : Rest) → rest_steps r ≡ steps_of (map term_of (pairs_of (r.first ∷ r.more.items)))
rest_view r = search (rules, the_lemmas)

pub plain_code : (func : Func) (xs : Args) → form_of func xs ≡ Plain → code_of (call func xs) ≡ code_of_args xs ++ i.Call func (count xs) ∷ []
plain_code f.If (arg (one c) (arg (one a) (arg (one b) no_arg))) is = cc
plain_code f.Indirect (arg (one e) no_arg) is = cc
plain_code f.Gather (arg (one e) no_arg) is = cc
plain_code func xs is = refl

pub plain_on : {A E : Type 0} (result : Result A E) (func : Func) (xs : Args) (old new : List Instr) → Plain ≡ form_of func xs → OnOk result (new ≡ old ++ (code_of_args xs ++ i.Call func (count xs) ∷ [])) → OnOk result (new ≡ old ++ code_of (call func xs))
plain_on result func xs old new is holds = let P : List Instr → Type 0 = λ cs. OnOk result (new ≡ old ++ cs) in subst P (sym (plain_code func xs (sym is))) holds

-- of formulas alone there are as many as the list is long
pub ones_by_length : (n : ℕ) (xs : List CodeArg) → list_all (λ x. is_one (arg_tree x)) xs ≡ true → nat_eq (length xs) n ≡ are_ones n (args_of (map arg_tree xs))
ones_by_length zero [] all = refl
ones_by_length (suc n) [] all = eqb-zero-suc n
ones_by_length zero (x ∷ xs) all = eqb-suc-zero (length xs)
ones_by_length (suc n) (x ∷ xs) all =
    elim (arg_tree x) as (λ y. (is_one y && list_all (λ x. is_one (arg_tree x)) xs) ≡ true → nat_eq (suc (length xs)) (suc n) ≡ are_ones (suc n) (arg y (args_of (map arg_tree xs)))) [
      | one e ↦ λ rest. eqb-suc-suc (length xs) n ∙ ones_by_length n xs rest
      | cells a ↦ λ never. cc
    ] all

pub not_ones : (n : ℕ) (xs : List CodeArg) → list_all (λ x. is_one (arg_tree x)) xs ≡ false → false ≡ are_ones n (args_of (map arg_tree xs))
not_ones n [] all = cc
not_ones zero (x ∷ xs) all = refl
not_ones (suc n) (x ∷ xs) all =
    elim (arg_tree x) as (λ y. (is_one y && list_all (λ x. is_one (arg_tree x)) xs) ≡ false → false ≡ are_ones (suc n) (arg y (args_of (map arg_tree xs)))) [
      | one e ↦ λ rest. not_ones n xs rest
      | cells a ↦ λ never. refl
    ] all

pub take_all : {X : Type 0} (xs : List X) (at : ℕ) → length xs ≤ at → take at xs ≡ xs
take_all xs at all = sym (append-nil (take at xs)) ∙ ap (λ ys. take at xs ++ ys) (sym (drop_of_length-le xs all)) ∙ take-append-drop at xs

-- one more argument at the end
args_end : (ys : List Arg) (y : Arg) → code_of_args (args_of (ys ++ y ∷ [])) ≡ code_of_args (args_of ys) ++ code_of_arg y
args_end [] y = append-nil (code_of_arg y)
args_end (z ∷ ys) y = ap (λ cs. code_of_arg z ++ cs) (args_end ys y) ∙ sym (append_assoc (code_of_arg z) (code_of_args (args_of ys)) (code_of_arg y))

pub args_more : (xs : List CodeArg) (at : ℕ) (x : CodeArg) (old now new : List Instr) → at < length xs → x ≡ get_or xs at x → now ≡ old ++ code_of_args (args_of (map arg_tree (take at xs))) → new ≡ now ++ code_of_arg (arg_tree x) → new ≡ old ++ code_of_args (args_of (map arg_tree (take (at + 1) xs)))
args_more xs at x old now new within is before after =
    let taken : take (at + 1) xs ≡ take at xs ++ x ∷ [] = take_more xs at x within ∙ ap (λ y. take at xs ++ y ∷ []) (sym is) in
    let mapped : map arg_tree (take at xs ++ x ∷ []) ≡ map arg_tree (take at xs) ++ arg_tree x ∷ [] = map-append arg_tree (take at xs) (x ∷ []) in
    after ∙ ap (λ cs. cs ++ code_of_arg (arg_tree x)) before ∙ append_assoc old (code_of_args (args_of (map arg_tree (take at xs)))) (code_of_arg (arg_tree x)) ∙ ap (λ cs. old ++ cs) (sym (args_end (map arg_tree (take at xs)) (arg_tree x)) ∙ ap (λ ys. code_of_args (args_of ys)) (sym mapped) ∙ ap (λ ys. code_of_args (args_of (map arg_tree ys))) (sym taken))

pub args_all : (xs : List CodeArg) (at : ℕ) (old now : List Instr) → length xs ≤ at → now ≡ old ++ code_of_args (args_of (map arg_tree (take at xs))) → now ≡ old ++ code_of_args (args_of (map arg_tree xs))
args_all xs at old now all is = is ∙ ap (λ ys. old ++ code_of_args (args_of (map arg_tree ys))) (take_all xs at all)

-- one more operand at the end
steps_end : (ts : List Term) (t : Term) → code_of_steps (steps_of (ts ++ t ∷ [])) ≡ code_of_steps (steps_of ts) ++ (code_of t.operand ++ i.Apply t.op ∷ [])
steps_end [] t = refl
steps_end (u ∷ ts) t = ap (λ cs. code_of u.operand ++ (i.Apply u.op ∷ cs)) (steps_end ts t) ∙ sym (append_assoc (code_of u.operand) (i.Apply u.op ∷ code_of_steps (steps_of ts)) (code_of t.operand ++ i.Apply t.op ∷ []))

pub steps_more : (xs : List (Op × Expr)) (at : ℕ) (x : Op × Expr) (old now new : List Instr) → at < length xs → x ≡ get_or xs at x → now ≡ old ++ code_of_steps (steps_of (map term_of (pairs_of (take at xs)))) → new ≡ (now ++ code_of (tree_of x.1)) ++ i.Apply x.0 ∷ [] → new ≡ old ++ code_of_steps (steps_of (map term_of (pairs_of (take (at + 1) xs))))
steps_more xs at x old now new within is before after =
    let t : Term = term_of (x.0, tree_of x.1) in
    let taken : take (at + 1) xs ≡ take at xs ++ x ∷ [] = take_more xs at x within ∙ ap (λ y. take at xs ++ y ∷ []) (sym is) in
    let paired : pairs_of (take at xs ++ x ∷ []) ≡ pairs_of (take at xs) ++ (x.0, tree_of x.1) ∷ [] = map-append (λ (p : Op × Expr). (p.0, tree_of p.1)) (take at xs) (x ∷ []) in
    let mapped : map term_of (pairs_of (take at xs) ++ (x.0, tree_of x.1) ∷ []) ≡ map term_of (pairs_of (take at xs)) ++ t ∷ [] = map-append term_of (pairs_of (take at xs)) ((x.0, tree_of x.1) ∷ []) in
    after ∙ append_assoc now (code_of (tree_of x.1)) (i.Apply x.0 ∷ []) ∙ ap (λ cs. cs ++ (code_of (tree_of x.1) ++ i.Apply x.0 ∷ [])) before ∙ append_assoc old (code_of_steps (steps_of (map term_of (pairs_of (take at xs))))) (code_of (tree_of x.1) ++ i.Apply x.0 ∷ []) ∙ ap (λ cs. old ++ cs) (sym (steps_end (map term_of (pairs_of (take at xs))) t) ∙ ap (λ ts. code_of_steps (steps_of ts)) (sym mapped) ∙ ap (λ ps. code_of_steps (steps_of (map term_of ps))) (sym paired) ∙ ap (λ ys. code_of_steps (steps_of (map term_of (pairs_of ys)))) (sym taken))

pub steps_all : (xs : List (Op × Expr)) (at : ℕ) (old now : List Instr) → length xs ≤ at → now ≡ old ++ code_of_steps (steps_of (map term_of (pairs_of (take at xs)))) → now ≡ old ++ code_of_steps (steps_of (map term_of (pairs_of xs)))
steps_all xs at old now all is = is ∙ ap (λ ys. old ++ code_of_steps (steps_of (map term_of (pairs_of ys)))) (take_all xs at all)

-- the first operand was written, and then those behind it
pub rest_written : (r : Rest) (old mid new : List Instr) → mid ≡ old ++ (code_of (tree_of r.first.1) ++ i.Apply r.first.0 ∷ []) → new ≡ mid ++ code_of_steps (steps_of (map term_of (pairs_of r.more.items))) → new ≡ old ++ code_of_steps (rest_steps r)
rest_written r old mid new first more =
    let behind = code_of_steps (steps_of (map term_of (pairs_of r.more.items))) in
    let own = code_of (tree_of r.first.1) ++ i.Apply r.first.0 ∷ [] in
    more ∙ ap (λ cs. cs ++ behind) first ∙ append_assoc old own behind
    ∙ ap (λ cs. old ++ cs) (append_assoc (code_of (tree_of r.first.1)) (i.Apply r.first.0 ∷ []) behind)
    ∙ ap (λ ss. old ++ code_of_steps ss) (sym (rest_view r))

pub more_level : (r : Rest) → HaveLevel (rest_steps r) → HaveLevel (steps_of (map term_of (pairs_of r.more.items)))
more_level r (l, are) = (l, (subst (AreSteps l) (rest_view r) are).2)

on_ok : {A E : Type 0} (result : Result A E) (P Q : Type 0) → (P → Q) → OnOk result P → OnOk result Q
on_ok (Ok a) P Q on holds = on holds
on_ok (Err e) P Q on holds = holds

three_of : (xs : List CodeArg) (c a b : Tree) (x y z : CodeArg) → args_of (map arg_tree xs) ≡ arg (one c) (arg (one a) (arg (one b) no_arg)) → x ≡ get_or xs 0 x → y ≡ get_or xs 1 y → z ≡ get_or xs 2 z → (arg_tree x ≡ one c) × (arg_tree y ≡ one a) × (arg_tree z ≡ one b)
three_of [] c a b x y z is first second third = cc
three_of (u ∷ []) c a b x y z is first second third = cc
three_of (u ∷ (v ∷ [])) c a b x y z is first second third = cc
three_of (u ∷ (v ∷ (w ∷ xs))) c a b x y z is first second third =
    let p : arg_tree u ≡ one c = cc in
    let q : arg_tree v ≡ one a = cc in
    let r : arg_tree w ≡ one b = cc in
    (ap arg_tree first ∙ p, ap arg_tree second ∙ q, ap arg_tree third ∙ r)

-- what was written for three arguments is the choice, where they are formulas
pub choice_written : {A E : Type 0} (result : Result A E) (xs : CodeArgs) (x y z : CodeArg) (ks is js old new : List Instr) → x ≡ get_or xs.items.items 0 x → y ≡ get_or xs.items.items 1 y → z ≡ get_or xs.items.items 2 z → ks ≡ code_of_arg (arg_tree x) → is ≡ code_of_arg (arg_tree y) → js ≡ code_of_arg (arg_tree z) → OnOk result (new ≡ old ++ choice ks is js) → OnOk result ((c a b : Tree) → args_tree xs ≡ arg (one c) (arg (one a) (arg (one b) no_arg)) → new ≡ old ++ choice (code_of c) (code_of a) (code_of b))
choice_written result xs x y z ks is js old new first second third one_is two_is three_is = on_ok result (new ≡ old ++ choice ks is js) ((c a b : Tree) → args_tree xs ≡ arg (one c) (arg (one a) (arg (one b) no_arg)) → new ≡ old ++ choice (code_of c) (code_of a) (code_of b)) (λ written c a b shape.
    let t = three_of xs.items.items c a b x y z (sym (args_view xs) ∙ shape) first second third in
    let k : ks ≡ code_of c = one_is ∙ ap code_of_arg t.0 in
    let i : is ≡ code_of a = two_is ∙ ap code_of_arg t.1 in
    let j : js ≡ code_of b = three_is ∙ ap code_of_arg t.2 in
    written ∙ ap (λ cs. old ++ choice cs is js) k ∙ ap (λ cs. old ++ choice (code_of c) cs js) i ∙ ap (λ cs. old ++ choice (code_of c) (code_of a) cs) j)

no_choice : (b : Bool) (other : Form) → (Choice ≡ other → ⊥) → Choice ≡ (if b then other else Plain) → ⊥
no_choice true other never is = never is
no_choice false other never is = cc

pub choice_on : {A E : Type 0} (result : Result A E) (func : Func) (xs : Args) (old new : List Instr) → Choice ≡ form_of func xs → OnOk result ((c a b : Tree) → xs ≡ arg (one c) (arg (one a) (arg (one b) no_arg)) → new ≡ old ++ choice (code_of c) (code_of a) (code_of b)) → OnOk result (new ≡ old ++ code_of (call func xs))
choice_on result f.If (arg (one c) (arg (one a) (arg (one b) no_arg))) old new is = on_ok result _ _ (λ written. written c a b refl)
choice_on result f.Indirect xs old new is = absurd (no_choice (are_ones 1 xs) Indirect (λ e. cc) is)
choice_on result f.Gather xs old new is = absurd (no_choice (are_ones 1 xs) Gather (λ e. cc) is)
choice_on result func xs old new is = cc

count_end : (ys : List Arg) (y : Arg) → count (args_of (ys ++ y ∷ [])) ≡ count (args_of ys) + count_arg y
count_end [] y = omega arith
count_end (z ∷ ys) y = omega (arith, count_end ys y)

pub count_more : (xs : List CodeArg) (at : ℕ) (x : CodeArg) (n m : ℕ) → at < length xs → x ≡ get_or xs at x → n ≡ count (args_of (map arg_tree (take at xs))) → m ≡ n + count_arg (arg_tree x) → m ≡ count (args_of (map arg_tree (take (at + 1) xs)))
count_more xs at x n m within is before after =
    let taken : take (at + 1) xs ≡ take at xs ++ x ∷ [] = take_more xs at x within ∙ ap (λ y. take at xs ++ y ∷ []) (sym is) in
    let mapped : map arg_tree (take at xs ++ x ∷ []) ≡ map arg_tree (take at xs) ++ arg_tree x ∷ [] = map-append arg_tree (take at xs) (x ∷ []) in
    after ∙ ap (λ k. k + count_arg (arg_tree x)) before ∙ sym (count_end (map arg_tree (take at xs)) (arg_tree x)) ∙ ap (λ ys. count (args_of ys)) (sym mapped) ∙ ap (λ ys. count (args_of (map arg_tree ys))) (sym taken)

pub count_all : (xs : List CodeArg) (at n : ℕ) → length xs ≤ at → n ≡ count (args_of (map arg_tree (take at xs))) → n ≡ count (args_of (map arg_tree xs))
count_all xs at n all is = is ∙ ap (λ ys. count (args_of (map arg_tree ys))) (take_all xs at all)

-- each argument of a call is one
arg_at : (func : _) (xs : List CodeArg) (at : ℕ) (d : CodeArg) → AreArgs func (args_of (map arg_tree xs)) → at < length xs → IsArg func (arg_tree (get_or xs at d))
arg_at func [] at d are within = let never : ⊥ = omega (arith, within) in absurd never
arg_at func (x ∷ xs) zero d (here, rest) within = here
arg_at func (x ∷ xs) (suc at) d (here, rest) within = let inside : at < length xs = omega arith in arg_at func xs at d rest inside

pub call_arg : (xs : CodeArgs) (at : ℕ) (x : CodeArg) → AreCallArgs (args_tree xs) → at < length xs.items.items → x ≡ get_or xs.items.items at x → IsCallArg (arg_tree x)
call_arg xs at x (func, are) within is = (func, subst (λ y. IsArg func (arg_tree y)) (sym is) (arg_at func xs.items.items at x (subst (AreArgs func) (args_view xs) are) within))

-- formulas alone are as many as the form says
ones_length : (n : ℕ) (xs : List CodeArg) → are_ones n (args_of (map arg_tree xs)) ≡ true → length xs ≡ n
ones_length zero [] is = refl
ones_length (suc n) [] is = cc
ones_length zero (x ∷ xs) is = cc
ones_length (suc n) (x ∷ xs) is =
    elim (arg_tree x) as (λ y. are_ones (suc n) (arg y (args_of (map arg_tree xs))) ≡ true → length (x ∷ xs) ≡ suc n) [
      | one e ↦ λ rest. ap suc (ones_length n xs rest)
      | cells a ↦ λ never. cc
    ] is

pub are_as_many : (n : ℕ) (xs : CodeArgs) → are_ones n (args_tree xs) ≡ true → length xs.items.items ≡ n
are_as_many n xs is = ones_length n xs.items.items (ap (are_ones n) (sym (args_view xs)) ∙ is)

-- which forms they are
pub choice_ones : (func : Func) (xs : Args) → Choice ≡ form_of func xs → are_ones 3 xs ≡ true
choice_ones f.If xs is = elim (are_ones 3 xs) as (λ b. Choice ≡ (if b then Choice else Plain) → b ≡ true) [
  | true ↦ λ here. refl
  | false ↦ λ never. cc
] is
choice_ones f.Indirect xs is = absurd (no_choice (are_ones 1 xs) Indirect (λ e. cc) is)
choice_ones f.Gather xs is = absurd (no_choice (are_ones 1 xs) Gather (λ e. cc) is)
choice_ones func xs is = cc

one_of : (xs : List CodeArg) (e : Tree) (x : CodeArg) → args_of (map arg_tree xs) ≡ arg (one e) no_arg → x ≡ get_or xs 0 x → arg_tree x ≡ one e
one_of [] e x is first = cc
one_of (u ∷ xs) e x is first = let p : arg_tree u ≡ one e = cc in ap arg_tree first ∙ p

-- what was written for one argument and an instruction behind it, where it is a formula
pub then_written : {A E : Type 0} (result : Result A E) (xs : CodeArgs) (x : CodeArg) (last : Instr) (old mid new : List Instr) → x ≡ get_or xs.items.items 0 x → mid ≡ old ++ code_of_arg (arg_tree x) → OnOk result (new ≡ mid ++ last ∷ []) → OnOk result ((e : Tree) → args_tree xs ≡ arg (one e) no_arg → new ≡ old ++ (code_of e ++ last ∷ []))
then_written result xs x last old mid new first before = on_ok result (new ≡ mid ++ last ∷ []) ((e : Tree) → args_tree xs ≡ arg (one e) no_arg → new ≡ old ++ (code_of e ++ last ∷ [])) (λ written e shape.
    let t : arg_tree x ≡ one e = one_of xs.items.items e x (sym (args_view xs) ∙ shape) first in
    written ∙ ap (λ cs. cs ++ last ∷ []) (before ∙ ap (λ y. old ++ code_of_arg y) t) ∙ append_assoc old (code_of e) (last ∷ []))

-- behind one argument, and behind one step
pub args_left : (xs : List CodeArg) (at : ℕ) (d : CodeArg) → at < length xs → AreCallArgs (args_of (map arg_tree (drop at xs))) → AreCallArgs (args_of (map arg_tree (drop (at + 1) xs)))
args_left xs at d within (func, are) =
    let split : drop at xs ≡ get_or xs at d ∷ drop (at + 1) xs = drop-cons xs at d within ∙ ap (λ n. get_or xs at d ∷ drop n xs) (sym (add-one at)) in
    (func, (subst (λ ys. AreArgs func (args_of (map arg_tree ys))) split are).1)

pub steps_left : (xs : List (Op × Expr)) (at : ℕ) (d : Op × Expr) → at < length xs → HaveLevel (steps_of (map term_of (pairs_of (drop at xs)))) → HaveLevel (steps_of (map term_of (pairs_of (drop (at + 1) xs))))
steps_left xs at d within (l, are) =
    let split : drop at xs ≡ get_or xs at d ∷ drop (at + 1) xs = drop-cons xs at d within ∙ ap (λ n. get_or xs at d ∷ drop n xs) (sym (add-one at)) in
    (l, (subst (λ ys. AreSteps l (steps_of (map term_of (pairs_of ys)))) split are).2)

pub arg_here : (xs : List CodeArg) (at : ℕ) (x : CodeArg) → AreCallArgs (args_of (map arg_tree (drop at xs))) → at < length xs → x ≡ get_or xs at x → IsCallArg (arg_tree x)
arg_here xs at x (func, are) within is =
    let split : drop at xs ≡ x ∷ drop (suc at) xs = drop-cons xs at x within ∙ ap (λ y. y ∷ drop (suc at) xs) (sym is) in
    (func, (subst (λ ys. AreArgs func (args_of (map arg_tree ys))) split are).0)

pub step_here : (xs : List (Op × Expr)) (at : ℕ) (x : Op × Expr) → HaveLevel (steps_of (map term_of (pairs_of (drop at xs)))) → at < length xs → x ≡ get_or xs at x → IsExpr (tree_of x.1)
step_here xs at x (l, are) within is =
    let split : drop at xs ≡ x ∷ drop (suc at) xs = drop-cons xs at x within ∙ ap (λ y. y ∷ drop (suc at) xs) (sym is) in
    (subst (λ ys. AreSteps l (steps_of (map term_of (pairs_of ys)))) split are).1

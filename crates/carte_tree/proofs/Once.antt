-- Each name once, as names come one after the other.
use Rattle.std.proofs.Common.{◌≡◌, ℕ, ◌+◌, take, get_or, Bool, true, false, not, cond, ◌||◌, List, [], ◌∷◌, ◌++◌, refl, ap, sym, ◌∙◌, filter, append_assoc, append-nil, ◌<◌, ◌≤◌, length, drop, subst, Result, IfOk, OnOk}
use Rattle.std.proofs.lemmas.Result.{IfOk-weaker}
use Rattle.std.specs.List.{list_any}
use Rattle.std.proofs.lemmas.List.{take_more, drop_all, drop_more}
use Rattle.std.specs.Cmp.Lexicographic.{bytes_decides, nat_list_eq_equiv}
use Rattle.carte_name.specs.Names.{name_eq}
use Rattle.carte_value.specs.Asks.{firsts}
use Rattle.carte_tree.specs.Tree.{Op, steps_of, args_of}
use Rattle.carte_tree.specs.Code.{tree_of, chain_tree, rest_steps, args_tree, arg_tree, terms_of, args_trees}
use Rattle.carte_tree.specs.Formula.{IsExpr, AreSteps, AreChainSteps, AreCallArgs, mentions, steps_mentions, args_mentions, arg_mentions}
use Rattle.carte_tree.specs.declared.expr.Chain.{Chain}
use Rattle.carte_tree.specs.declared.expr.Expr.{Expr}
use Rattle.carte_tree.specs.declared.expr.Rest.{Rest}
use Rattle.carte_tree.specs.declared.expr.Args.{Args}
use Rattle.carte_tree.specs.declared.expr.Arg.{Arg}
use Rattle.carte_value.specs.Firsts.{seen_also, seen_all}
use Rattle.carte_tree.proofs.Parts.{on_ok, chain_is, rest_out, args_out}

filter_end : (p : List ℕ → Bool) (ks : List (List ℕ)) (k : List ℕ) → filter p (ks ++ k ∷ []) ≡ filter p ks ++ (cond (p k) (k ∷ []) [])
filter_end p [] k = refl
filter_end p (j ∷ ks) k =
    elim (p j) as (λ b. cond b (j ∷ filter p (ks ++ k ∷ [])) (filter p (ks ++ k ∷ [])) ≡ cond b (j ∷ filter p ks) (filter p ks) ++ cond (p k) (k ∷ []) []) [
      | true ↦ ap (λ js. j ∷ js) (filter_end p ks k)
      | false ↦ filter_end p ks k
    ]

-- a name that passes stands in what was kept where it stood before
any_kept : (j k : List ℕ) (ks : List (List ℕ)) → name_eq j k ≡ false → list_any (name_eq k) (filter (λ i. not (name_eq j i)) ks) ≡ list_any (name_eq k) ks
any_kept j k [] apart = refl
any_kept j k (i ∷ ks) apart =
    elim (name_eq j i) as (λ b. name_eq j i ≡ b → list_any (name_eq k) (cond (not b) (i ∷ filter (λ i. not (name_eq j i)) ks) (filter (λ i. not (name_eq j i)) ks)) ≡ (name_eq k i || list_any (name_eq k) ks)) [
      | true ↦ λ same. any_kept j k ks apart ∙ ap (λ b. b || list_any (name_eq k) ks) (sym (ap (name_eq k) (sym ((bytes_decides j i).0 same)) ∙ nat_list_eq_equiv.symm k j ∙ apart))
      | false ↦ λ other. ap (λ b. name_eq k i || b) (any_kept j k ks apart)
    ] refl

pub firsts_end : (ks : List (List ℕ)) (k : List ℕ) → firsts (ks ++ k ∷ []) ≡ seen_also (firsts ks) k
firsts_end [] k = refl
firsts_end (j ∷ ks) k = ap (λ js. j ∷ filter (λ i. not (name_eq j i)) js) (firsts_end ks k) ∙ cases (name_eq j k) (list_any (name_eq k) (firsts ks)) refl refl
  where
    dropped : name_eq j k ≡ true → filter (λ i. not (name_eq j i)) (firsts ks ++ k ∷ []) ≡ filter (λ i. not (name_eq j i)) (firsts ks)
    dropped is = filter_end (λ i. not (name_eq j i)) (firsts ks) k ∙ ap (λ b. filter (λ i. not (name_eq j i)) (firsts ks) ++ cond (not b) (k ∷ []) []) is ∙ append-nil (filter (λ i. not (name_eq j i)) (firsts ks))

    put : name_eq j k ≡ false → filter (λ i. not (name_eq j i)) (firsts ks ++ k ∷ []) ≡ filter (λ i. not (name_eq j i)) (firsts ks) ++ k ∷ []
    put is = filter_end (λ i. not (name_eq j i)) (firsts ks) k ∙ ap (λ b. filter (λ i. not (name_eq j i)) (firsts ks) ++ cond (not b) (k ∷ []) []) is

    turned : name_eq k j ≡ name_eq j k
    turned = nat_list_eq_equiv.symm k j

    whole : (b : Bool) → name_eq j k ≡ b → seen_also (j ∷ filter (λ i. not (name_eq j i)) (firsts ks)) k ≡ cond (b || list_any (name_eq k) (filter (λ i. not (name_eq j i)) (firsts ks))) (j ∷ filter (λ i. not (name_eq j i)) (firsts ks)) (j ∷ (filter (λ i. not (name_eq j i)) (firsts ks) ++ k ∷ []))
    whole b is = ap (λ c. cond (c || list_any (name_eq k) (filter (λ i. not (name_eq j i)) (firsts ks))) (j ∷ filter (λ i. not (name_eq j i)) (firsts ks)) (j ∷ (filter (λ i. not (name_eq j i)) (firsts ks) ++ k ∷ []))) (turned ∙ is)

    seen : (b : Bool) → list_any (name_eq k) (firsts ks) ≡ b → seen_also (firsts ks) k ≡ cond b (firsts ks) (firsts ks ++ k ∷ [])
    seen b has = ap (λ c. cond c (firsts ks) (firsts ks ++ k ∷ [])) has

    left : (b : Bool) → list_any (name_eq k) (firsts ks) ≡ b → j ∷ filter (λ i. not (name_eq j i)) (seen_also (firsts ks) k) ≡ j ∷ filter (λ i. not (name_eq j i)) (cond b (firsts ks) (firsts ks ++ k ∷ []))
    left b has = ap (λ js. j ∷ filter (λ i. not (name_eq j i)) js) (seen b has)

    cases : (same known : Bool) → name_eq j k ≡ same → list_any (name_eq k) (firsts ks) ≡ known → j ∷ filter (λ i. not (name_eq j i)) (seen_also (firsts ks) k) ≡ seen_also (j ∷ filter (λ i. not (name_eq j i)) (firsts ks)) k
    cases true true is has = left true has ∙ sym (whole true is)
    cases true false is has = left false has ∙ ap (λ js. j ∷ js) (dropped is) ∙ sym (whole true is)
    cases false known is has = left known has ∙ last known has ∙ sym (whole false is)
      where
        last : (b : Bool) → list_any (name_eq k) (firsts ks) ≡ b → j ∷ filter (λ i. not (name_eq j i)) (cond b (firsts ks) (firsts ks ++ k ∷ [])) ≡ cond (false || list_any (name_eq k) (filter (λ i. not (name_eq j i)) (firsts ks))) (j ∷ filter (λ i. not (name_eq j i)) (firsts ks)) (j ∷ (filter (λ i. not (name_eq j i)) (firsts ks) ++ k ∷ []))
        last true has = ap (λ c. cond c (j ∷ filter (λ i. not (name_eq j i)) (firsts ks)) (j ∷ (filter (λ i. not (name_eq j i)) (firsts ks) ++ k ∷ []))) (sym (any_kept j k (firsts ks) is ∙ has))
        last false has = ap (λ js. j ∷ js) (put is) ∙ ap (λ c. cond c (j ∷ filter (λ i. not (name_eq j i)) (firsts ks)) (j ∷ (filter (λ i. not (name_eq j i)) (firsts ks) ++ k ∷ []))) (sym (any_kept j k (firsts ks) is ∙ has))

-- the names of a list, one after the other
pub firsts_all : (ks js : List (List ℕ)) → seen_all (firsts ks) js ≡ firsts (ks ++ js)
firsts_all ks [] = ap firsts (sym (append-nil ks))
firsts_all ks (j ∷ js) = ap (λ is. seen_all is js) (sym (firsts_end ks j)) ∙ firsts_all (ks ++ j ∷ []) js ∙ ap firsts (append_assoc ks (j ∷ []) js)

seen_end : (ks js : List (List ℕ)) (k : List ℕ) → seen_all ks (js ++ k ∷ []) ≡ seen_also (seen_all ks js) k
seen_end ks [] k = refl
seen_end ks (j ∷ js) k = seen_end (seen_also ks j) js k

-- the next name of a list was seen
pub seen_more : (xs : List (List ℕ)) (at : ℕ) (k : List ℕ) (start now new : List (List ℕ)) → at < length xs → k ≡ get_or xs at k → now ≡ seen_all start (take at xs) → new ≡ seen_also now k → new ≡ seen_all start (take (at + 1) xs)
seen_more xs at k start now new within is before after =
    after ∙ ap (λ ks. seen_also ks k) before ∙ sym (seen_end start (take at xs) k) ∙ ap (seen_all start) (ap (λ j. take at xs ++ j ∷ []) is ∙ sym (take_more xs at k within))

-- some names, and then some more
pub seen_both : (ks is js : List (List ℕ)) → seen_all ks (is ++ js) ≡ seen_all (seen_all ks is) js
seen_both ks [] js = refl
seen_both ks (i ∷ is) js = seen_both (seen_also ks i) is js

-- a chain's first operand was seen, and then the others
pub chain_seen : {E : Type 0} (r : Result (Unit {0}) E) (c : Chain) (old now new : List (List ℕ)) → now ≡ seen_all old (mentions (tree_of c.first)) → OnOk r (new ≡ seen_all now (steps_mentions (rest_steps c.rest))) → OnOk r (new ≡ seen_all old (mentions (chain_tree c)))
chain_seen r c old now new is after =
    on_ok r after (λ e. e ∙ ap (λ ks. seen_all ks (steps_mentions (rest_steps c.rest))) is
    ∙ sym (seen_both old (mentions (tree_of c.first)) (steps_mentions (rest_steps c.rest)))
    ∙ ap (λ e. seen_all old (mentions e)) (sym (chain_is c)))

-- its other operands are steps
pub chain_steps : (c : Chain) → IsExpr (chain_tree c) → AreChainSteps (rest_steps c.rest)
chain_steps c h = (c.level, (subst (λ e. IsExpr e) (chain_is c) h).1)

-- what is left of a chain, in which names are to be seen
abbrev pub StepsLeft : List (Op × Expr) → List (List ℕ) → List (List ℕ) → Type 0
StepsLeft ps now all = (seen_all now (steps_mentions (steps_of (terms_of ps))) ≡ all) × AreChainSteps (steps_of (terms_of ps))

-- the first of them was seen, and the others are left
pub rest_seen : (r : Rest) (old now : List (List ℕ)) → AreChainSteps (rest_steps r) → now ≡ seen_all old (mentions (tree_of r.first.1)) → StepsLeft r.more.items now (seen_all old (steps_mentions (rest_steps r)))
rest_seen r old now (l, are) is =
    let left = steps_mentions (steps_of (terms_of r.more.items)) in
    let steps : AreSteps l (steps_of (terms_of (r.first ∷ r.more.items))) = subst (λ ss. AreSteps l ss) (rest_out r) are in (
      ap (λ ks. seen_all ks left) is
          ∙ sym (seen_both old (mentions (tree_of r.first.1)) left)
          ∙ ap (λ ss. seen_all old (steps_mentions ss)) (sym (rest_out r)),
      (l, steps.2),
    )

-- all arguments were seen
pub args_seen : (a : Args) (n : ℕ) (old now : List (List ℕ)) → length a.items.items ≤ n → seen_all now (args_mentions (args_of (args_trees (drop n a.items.items)))) ≡ seen_all old (args_mentions (args_of (args_trees a.items.items))) → now ≡ seen_all old (args_mentions (args_tree a))
args_seen a n old now all is =
    sym (ap (λ xs. seen_all now (args_mentions (args_of (args_trees xs)))) (drop_all n a.items.items all))
    ∙ is ∙ ap (λ xs. seen_all old (args_mentions xs)) (sym (args_out a))

-- what was listed are the names, each once
pub listed_firsts : {E : Type 0} (r : Result (List (List ℕ)) E) (ks none js : List (List ℕ)) → none ≡ [] → ks ≡ seen_all none js → IfOk r (λ k. k ≡ ks) → IfOk r (λ k. k ≡ firsts js)
listed_firsts r ks none js is seen h = IfOk-weaker r (λ k. k ≡ ks) (λ k. k ≡ firsts js) (λ k e. e ∙ seen ∙ ap (λ i. seen_all i js) is ∙ firsts_all [] js) h

pub steps_turn : (ps : List (Op × Expr)) (i : ℕ) (p : Op × Expr) (now new all : List (List ℕ)) → i < length ps → p ≡ get_or ps i p → new ≡ seen_all now (mentions (tree_of p.1)) → StepsLeft (drop i ps) now all → StepsLeft (drop (i + 1) ps) new all
steps_turn ps i p now new all within is after left =
    let cut : drop i ps ≡ p ∷ drop (i + 1) ps = drop_more ps i p within ∙ ap (λ q. q ∷ drop (i + 1) ps) (sym is) in
    let here : StepsLeft (p ∷ drop (i + 1) ps) now all = subst (λ qs. StepsLeft qs now all) cut left in
    (ap (λ ks. seen_all ks (steps_mentions (steps_of (terms_of (drop (i + 1) ps))))) after ∙ sym (seen_both now (mentions (tree_of p.1)) (steps_mentions (steps_of (terms_of (drop (i + 1) ps))))) ∙ here.0, (here.1.0, here.1.1.2))

-- and what is left of a call's arguments
abbrev pub ArgsLeft : List Arg → List (List ℕ) → List (List ℕ) → Type 0
ArgsLeft xs now all = (seen_all now (args_mentions (args_of (args_trees xs))) ≡ all) × AreCallArgs (args_of (args_trees xs))

pub args_turn : (xs : List Arg) (i : ℕ) (x : Arg) (now new all : List (List ℕ)) → i < length xs → x ≡ get_or xs i x → new ≡ seen_all now (arg_mentions (arg_tree x)) → ArgsLeft (drop i xs) now all → ArgsLeft (drop (i + 1) xs) new all
args_turn xs i x now new all within is after left =
    let cut : drop i xs ≡ x ∷ drop (i + 1) xs = drop_more xs i x within ∙ ap (λ y. y ∷ drop (i + 1) xs) (sym is) in
    let here : ArgsLeft (x ∷ drop (i + 1) xs) now all = subst (λ ys. ArgsLeft ys now all) cut left in
    (ap (λ ks. seen_all ks (args_mentions (args_of (args_trees (drop (i + 1) xs))))) after ∙ sym (seen_both now (arg_mentions (arg_tree x)) (args_mentions (args_of (args_trees (drop (i + 1) xs))))) ∙ here.0, (here.1.0, here.1.1.1))

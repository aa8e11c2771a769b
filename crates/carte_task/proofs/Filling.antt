-- Answers that are there before the start.
use Rattle.std.proofs.Common.{◌≡◌, ℕ, ◌+◌, ◌<◌, Bool, true, false, not, cond, List, [], ◌∷◌, ◌++◌, Option, Some, None, Ok, length, drop, get_or, suc, add-one, refl, ap, sym, ◌∙◌, subst, append_assoc, append-nil, filter, inl, inr}
use Rattle.std.proofs.Math.Seq.{drop-cons}
use Rattle.std.specs.Cmp.Lexicographic.{bytes_decides, nat_list_eq_equiv}
use Rattle.carte_value.specs.declared.value.Value.{Value}
use Rattle.carte_name.specs.Names.{name_eq}
use Rattle.carte_value.specs.Truths.{Truth, Among, NoneTwice}
use Rattle.carte_value.specs.Asks.{Asks, done, ask, run, answered, firsts}
use Rattle.carte_value.specs.Once.{Answers, answer_in, once_on, once, Went, AnswersOf}
use Rattle.carte_value.proofs.Firsts.{among_filter}
use Rattle.carte_effect.specs.Effects.{paired}
use Rattle.carte_effect.specs.Lists.{ValuesOf}
use Rattle.carte_name.specs.declared.kind.Kind.{Kind}
use Rattle.carte_task.specs.declared.code.Instr.{Instr}
use Rattle.carte_task.specs.declared.progress.Progress.{Progress}
use Rattle.carte_task.specs.declared.static_task.StaticTask.{StaticTask}
use Rattle.carte_task.specs.Code.{top}
use Rattle.carte_task.specs.State.{answers_in, rest_in, Proceeds}
use Rattle.carte_effect.specs.Outcomes.{Outcome}
use Rattle.carte_task.specs.Statics.{static_refs, static_asks, IsStaticEnd, EndsOver}

-- names that each stand once

filtered_once : (p : List ℕ → Bool) (ks : List (List ℕ)) → NoneTwice ks → NoneTwice (filter p ks)
filtered_once p [] once = tt
filtered_once p (k ∷ ks) (new, rest) =
    elim (p k) as (λ b. NoneTwice (cond b (k ∷ filter p ks) (filter p ks))) [
      | true ↦ ((λ h. new (among_filter p ks k h)), filtered_once p ks rest)
      | false ↦ filtered_once p ks rest
    ]

not_among : (p : List ℕ → Bool) (ks : List (List ℕ)) (k : List ℕ) → p k ≡ false → Among (filter p ks) k → ⊥
not_among p [] k fails h = h
not_among p (j ∷ ks) k fails h =
    elim (p j) as (λ b. p j ≡ b → Among (cond b (j ∷ filter p ks) (filter p ks)) k → ⊥) [
      | true ↦ λ is here. elim here [
        | inl same ↦ let e : p k ≡ p j = ap p same in cc
        | inr later ↦ not_among p ks k fails later
      ]
      | false ↦ λ is later. not_among p ks k fails later
    ] refl h

pub firsts_once : (ks : List (List ℕ)) → NoneTwice (firsts ks)
firsts_once [] = tt
firsts_once (k ∷ ks) = ((λ h. not_among (λ j. not (name_eq k j)) (firsts ks) k (ap not (nat_list_eq_equiv.refl k)) h), filtered_once (λ j. not (name_eq k j)) (firsts ks) (firsts_once ks))

-- answers that are put one behind the other

cons_parts : {X : Type 0} (x y : X) (xs ys : List X) → x ∷ xs ≡ y ∷ ys → (x ≡ y) × (xs ≡ ys)
cons_parts x y xs ys is = let p : x ≡ y = cc in let q : xs ≡ ys = cc in (p, q)

stands : (es : Answers) (k : List ℕ) (v : Value) (rest : Answers) (ks : List (List ℕ)) (vs : List Value) → es ++ ((k, v) ∷ rest) ≡ paired ks vs → Among ks k
stands [] k v rest [] vs is = cc
stands [] k v rest (j ∷ ks) [] is = cc
stands [] k v rest (j ∷ ks) (w ∷ vs) is = inl (ap (λ p. p.0) (cons_parts (k, v) (j, w) rest (paired ks vs) is).0)
stands (e ∷ es) k v rest [] vs is = cc
stands (e ∷ es) k v rest (j ∷ ks) [] is = cc
stands (e ∷ es) k v rest (j ∷ ks) (w ∷ vs) is = inr (stands es k v rest ks vs (cons_parts e (j, w) (es ++ ((k, v) ∷ rest)) (paired ks vs) is).1)

absent : (es : Answers) (k : List ℕ) (v : Value) (rest : Answers) (ks : List (List ℕ)) (vs : List Value) → NoneTwice ks → es ++ ((k, v) ∷ rest) ≡ paired ks vs → answer_in es k ≡ None
absent [] k v rest ks vs once is = refl
absent ((i, u) ∷ es) k v rest [] vs once is = cc
absent ((i, u) ∷ es) k v rest (j ∷ ks) [] once is = cc
absent ((i, u) ∷ es) k v rest (j ∷ ks) (w ∷ vs) (new, once) is =
    let parts = cons_parts (i, u) (j, w) (es ++ ((k, v) ∷ rest)) (paired ks vs) is in
    let same : i ≡ j = ap (λ p. p.0) parts.0 in
    let tail : es ++ ((k, v) ∷ rest) ≡ paired ks vs = parts.1 in
    elim (name_eq k i) as (λ b. name_eq k i ≡ b → cond b (Some u) (answer_in es k) ≡ None) [
      | true ↦ λ equal. absurd (new (subst (Among ks) ((bytes_decides k i).0 equal ∙ same) (stands es k v rest ks vs tail)))
      | false ↦ λ other. absent es k v rest ks vs once tail
    ] refl

-- what is left of the names begins with the next one
here_of : (items names : List (List ℕ)) (vs left now : List Value) (at : ℕ) (k : List ℕ) (v : Value) (es : Answers) → at < length items → k ≡ get_or items at k → now ≡ v ∷ left → es ++ paired (drop at items) now ≡ paired names vs → es ++ ((k, v) ∷ paired (drop (at + 1) items) left) ≡ paired names vs
here_of items names vs left now at k v es within is next before =
    let split : drop at items ≡ k ∷ drop (at + 1) items = drop-cons items at k within ∙ ap (λ j. j ∷ drop (suc at) items) (sym is) ∙ ap (λ n. k ∷ drop n items) (sym (add-one at)) in
    ap (λ ks. es ++ paired ks (v ∷ left)) (sym split) ∙ ap (λ us. es ++ paired (drop at items) us) (sym next) ∙ before

-- it has no answer yet
pub fill_new : (items names : List (List ℕ)) (vs left now : List Value) (at : ℕ) (k : List ℕ) (v : Value) (es : Answers) → NoneTwice names → at < length items → k ≡ get_or items at k → now ≡ v ∷ left → es ++ paired (drop at items) now ≡ paired names vs → answer_in es k ≡ None
fill_new items names vs left now at k v es once within is next before =
    absent es k v (paired (drop (at + 1) items) left) names vs once (here_of items names vs left now at k v es within is next before)

-- it has its value
pub fill_step : (items names : List (List ℕ)) (vs left now : List Value) (at : ℕ) (k : List ℕ) (v : Value) (es new : Answers) → at < length items → k ≡ get_or items at k → now ≡ v ∷ left → es ++ paired (drop at items) now ≡ paired names vs → new ≡ es ++ (k, v) ∷ [] → new ++ paired (drop (at + 1) items) left ≡ paired names vs
fill_step items names vs left now at k v es new within is next before put =
    ap (λ a. a ++ paired (drop (at + 1) items) left) put ∙ append_assoc es ((k, v) ∷ []) (paired (drop (at + 1) items) left) ∙ here_of items names vs left now at k v es within is next before

no_values : (ks : List (List ℕ)) → paired ks [] ≡ []
no_values [] = refl
no_values (k ∷ ks) = refl

-- over answers of the truth, what ends without asking ends over the truth

answers_of_values : (t : Truth) (ks : List (List ℕ)) (vs : List Value) (k : List ℕ) (v : Value) → ValuesOf t ks vs → answer_in (paired ks vs) k ≡ Some v → t k ≡ Some v
answers_of_values t [] vs k v of is = cc
answers_of_values t (j ∷ ks) [] k v of is = absurd of
answers_of_values t (j ∷ ks) (w ∷ vs) k v (one, rest) is =
    elim (name_eq k j) as (λ b. name_eq k j ≡ b → cond b (Some w) (answer_in (paired ks vs) k) ≡ Some v → t k ≡ Some v) [
      | true ↦ λ same here. ap t ((bytes_decides k j).0 same) ∙ one ∙ here
      | false ↦ λ other later. answers_of_values t ks vs k v rest later
    ] refl is

ends_over : {A : Type 0} (t : Truth) (a : Answers) (m : Asks A) (x : A) → ((k : List ℕ) (v : Value) → answer_in a k ≡ Some v → t k ≡ Some v) → once a m ≡ done x → run t m ≡ Ok x
ends_over t a (done y) x of is = let e : y ≡ x = cc in ap Ok e
ends_over {A = A} t a (ask k go) x of is =
    elim (answer_in a k) as (λ o. answer_in a k ≡ o → once_on o a k (λ b v. once b (go v)) ≡ done x → answered {A = A} (t k) k (λ v. run t (go v)) ≡ Ok x) [
      | Some v ↦ λ known here. rw (of k v known) (ends_over t a (go v) x of here)
      | None ↦ λ none here. cc
    ] refl is

pub static_end : (t : Truth) (s : StaticTask) (vs : List Value) (o : Outcome) → ValuesOf t (static_refs s) vs → EndsOver s vs o → IsStaticEnd t s o
static_end t s vs o of ends = record {
  key = ends.key;
  value = ends_over t (paired (static_refs s) vs) (static_asks s) o.value (λ k v. answers_of_values t (static_refs s) vs k v of) ends.value;
  values = vs;
  known = of;
  links = ends.links;
}

pub nothing_known : (b : Answers) → AnswersOf (λ k. None) b → b ≡ []
nothing_known [] of = refl
nothing_known ((k, v) ∷ b) (is, of) = cc

-- a drive that is answered nothing more
pub over_done : {S : Type 0} (kind : Kind) (code : List Instr) (own : List ℕ → S → Type 0) (log0 log : Option Answers) (p q : Progress) (u : Unit {0}) → Proceeds kind code (λ k. None) own log0 log p q (Ok u) → (answers_in q ≡ answers_in p) × (rest_in kind code p ≡ done (top q.values.items))
over_done kind code own log0 log p q u (along, end) =
    let none : along.further ≡ [] = nothing_known along.further along.led.known in (
      along.answers ∙ ap (λ b. answers_in p ++ b) none ∙ append-nil (answers_in p),
      subst (λ b. Went (rest_in kind code p) b (rest_in kind code q)) none along.led.went ∙ end,
    )

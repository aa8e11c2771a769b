-- The clean values are a fixpoint, and the least one.
use Rattle.std.proofs.Common.{◌≡◌, ℕ, zero, suc, ◌+◌, ◌≤◌, ◌<◌, true, false, cond, List, [], ◌∷◌, length, Option, Some, None, is_some, Result, Ok, Err, refl, ap, sym, ◌∙◌, inl, inr, ◌⊎◌, arith, Ordering, Less, Equal, Greater}
use Rattle.std.proofs.Math.Path.{fun_ext}
use Rattle.std.proofs.Math.Nat.{eq-or-lt_of_le}
use Rattle.std.specs.Result.{result_ok}
use Rattle.std.specs.Ordering.{eq_by_cmp, is_eq}
use Rattle.std.specs.FinMap.{entries, get, find, get-entries, slice_cmp-IsAntisymmetric, nat_cmp-IsAntisymmetric}
use Rattle.carte_name.specs.declared.kind.Kind.{Kind}
use Rattle.carte_value.specs.declared.value.Value.{Value}
use Rattle.carte_name.specs.declared.kind.Kind.TheVariants.{Rules, Sheet}
use Rattle.carte_value.specs.declared.value.Value.TheVariants.{Empty}
use Rattle.carte_name.specs.Names.{name_cmp, is_cell_name}
use Rattle.carte_value.specs.Truths.{Truth, Extends}
use Rattle.carte_value.proofs.Asks.{run_kept, stop_has_value}
use Rattle.carte_tree.specs.Tree.{Tree}
use Rattle.carte_tree.specs.Meaning.{asks, eval}
use Rattle.carte_book.specs.Book.{Item, input, rule, Book, default_of, or_default, content, valued, settled, val, rules_among, rules_of, clean}

pub valued_kept : (o : Option Item) (f g : Tree → Option Value) → ((e : Tree) (v : Value) → f e ≡ Some v → g e ≡ Some v) → (v : Value) → valued o f ≡ Some v → valued o g ≡ Some v
valued_kept None f g more v h = h
valued_kept (Some (input w)) f g more v h = h
valued_kept (Some (rule e)) f g more v h = more e v h

pub ended : (r : Result Value (List ℕ)) (v : Value) → result_ok r ≡ Some v → r ≡ Ok v
ended (Ok w) v h = cc
ended (Err k) v h = cc

pub eval_kept : (kind : Kind) (t u : Truth) (e : Tree) (v : Value) → Extends t u → eval kind t e ≡ Ok v → eval kind u e ≡ Ok v
eval_kept kind t u e v more h = run_kept t u (asks kind e) v more h

pub settled_kept : (b : Book) (t u : Truth) → Extends t u → Extends (settled b t) (settled b u)
settled_kept b t u more k v h =
    valued_kept (content b k) (λ e. result_ok (eval b.kind t e)) (λ e. result_ok (eval b.kind u e)) (λ e w is. ap result_ok (eval_kept b.kind t u e w more (ended (eval b.kind t e) w is))) v h

pub val_kept : (b : Book) (n : ℕ) → Extends (val b n) (val b (suc n))
val_kept b zero k v h = valued_kept (content b k) (λ e. None) (λ e. result_ok (eval b.kind (val b zero) e)) (λ e w is. cc) v h
val_kept b (suc n) k v h = settled_kept b (val b n) (val b (suc n)) (val_kept b n) k v h

-- how many of the rules have a value
abbrev known : Truth → List (List ℕ × Tree) → ℕ
known t [] = 0
known t ((k, e) ∷ rs) = cond (is_some (t k)) 1 0 + known t rs

some_kept : (o p : Option Value) → ((v : Value) → o ≡ Some v → p ≡ Some v) → cond (is_some o) 1 0 ≤ cond (is_some p) 1 0
some_kept None p more = omega arith
some_kept (Some v) p more = rw (more v refl) (omega arith)

some_same : (o p : Option Value) → ((v : Value) → o ≡ Some v → p ≡ Some v) → cond {A = ℕ} (is_some o) 1 0 ≡ cond (is_some p) 1 0 → p ≡ o
some_same None None more e = refl
some_same None (Some v) more e = absurd (omega arith)
some_same (Some v) p more e = more v refl

known_grows : (t u : Truth) (rs : List (List ℕ × Tree)) → Extends t u → known t rs ≤ known u rs
known_grows t u [] more = omega arith
known_grows t u ((k, e) ∷ rs) more = omega (arith, some_kept (t k) (u k) (more k), known_grows t u rs more)

known_all : (t : Truth) (rs : List (List ℕ × Tree)) → known t rs ≤ length rs
known_all t [] = omega arith
known_all t ((k, e) ∷ rs) = omega (arith, at_most (t k), known_all t rs)
  where
    at_most : (o : Option Value) → cond {A = ℕ} (is_some o) 1 0 ≤ 1
    at_most None = omega arith
    at_most (Some v) = omega arith

pub tied_name : (k j : List ℕ) → eq_by_cmp name_cmp k j ≡ true → k ≡ j
tied_name k j h = slice_cmp-IsAntisymmetric nat_cmp-IsAntisymmetric k j (equal (name_cmp k j) h)
  where
    equal : (o : Ordering) → is_eq o ≡ true → o ≡ Equal
    equal Less e = cc
    equal Equal e = refl
    equal Greater e = cc

-- a rule whose values differ makes the number of known rules rise
rule_same : (t u : Truth) (es : List (List ℕ × Item)) (k : List ℕ) (e : Tree) → Extends t u → find name_cmp k es ≡ Some (rule e) → known t (rules_among es) ≡ known u (rules_among es) → u k ≡ t k
rule_same t u [] k e more is same = cc
rule_same t u ((j, input v) ∷ es) k e more is same =
    elim (eq_by_cmp name_cmp k j) as (λ b. cond b (Some (input v)) (find name_cmp k es) ≡ Some (rule e) → u k ≡ t k) [
      | true ↦ λ here. cc
      | false ↦ λ later. rule_same t u es k e more later same
    ] is
rule_same t u ((j, rule d) ∷ es) k e more is same =
    elim (eq_by_cmp name_cmp k j) as (λ b. eq_by_cmp name_cmp k j ≡ b → cond b (Some (rule d)) (find name_cmp k es) ≡ Some (rule e) → u k ≡ t k) [
      | true ↦ λ tied here. rw (tied_name k j tied) (some_same (t j) (u j) (more j) (omega (arith, some_kept (t j) (u j) (more j), known_grows t u (rules_among es) more)))
      | false ↦ λ tied later. rule_same t u es k e more later (omega (arith, some_kept (t j) (u j) (more j), known_grows t u (rules_among es) more))
    ] refl is

no_default_rule : (kind : Kind) (k : List ℕ) (e : Tree) → default_of kind k ≡ Some (rule e) → ⊥
no_default_rule Rules k e h = cc
no_default_rule Sheet k e h = elim (is_cell_name k) as (λ c. cond c (Some (input Empty)) None ≡ Some (rule e) → ⊥) [
  | true ↦ λ is. cc
  | false ↦ λ is. cc
] h

held_rule : (o d : Option Item) (e : Tree) → (d ≡ Some (rule e) → ⊥) → or_default o d ≡ Some (rule e) → o ≡ Some (rule e)
held_rule (Some x) d e never is = is
held_rule None d e never is = absurd (never is)

-- a rule is one of the keys
pub rule_held : (b : Book) (k : List ℕ) (e : Tree) → content b k ≡ Some (rule e) → get b.items k ≡ Some (rule e)
rule_held b k e is = held_rule (get b.items k) (default_of b.kind k) e (no_default_rule b.kind k e) is

-- where no rule gains a value, a round changes nothing
round_same : (b : Book) (n : ℕ) → known (val b n) (rules_of b) ≡ known (val b (suc n)) (rules_of b) → val b (suc n) ≡ val b n
round_same b n same = fun_ext (λ k. at k (content b k) refl)
  where
    nothing : (k : List ℕ) (n : ℕ) → content b k ≡ None → val b n k ≡ None
    nothing k zero is = rw is refl
    nothing k (suc n) is = rw is refl

    given : (k : List ℕ) (n : ℕ) (v : Value) → content b k ≡ Some (input v) → val b n k ≡ Some v
    given k zero v is = rw is refl
    given k (suc n) v is = rw is refl

    at : (k : List ℕ) (o : Option Item) → content b k ≡ o → val b (suc n) k ≡ val b n k
    at k None is = nothing k (suc n) is ∙ sym (nothing k n is)
    at k (Some (input v)) is = given k (suc n) v is ∙ sym (given k n v is)
    at k (Some (rule e)) is = rule_same (val b n) (val b (suc n)) (entries b.items) k e (val_kept b n) (sym (get-entries b.items k) ∙ rule_held b k e is) same

rounds : (b : Book) (n : ℕ) → (settled b (val b n) ≡ val b n) ⊎ (n ≤ known (val b n) (rules_of b))
rounds b zero = inr (omega arith)
rounds b (suc n) = elim (rounds b n) [
  | inl done ↦ inl (ap (settled b) done)
  | inr many ↦ more many (eq-or-lt_of_le (known_grows (val b n) (val b (suc n)) (rules_of b) (val_kept b n)))
]
  where
    more : n ≤ known (val b n) (rules_of b) → (known (val b n) (rules_of b) ≡ known (val b (suc n)) (rules_of b)) ⊎ (known (val b n) (rules_of b) < known (val b (suc n)) (rules_of b)) → (settled b (val b (suc n)) ≡ val b (suc n)) ⊎ (suc n ≤ known (val b (suc n)) (rules_of b))
    more many (inl same) = inl (ap (settled b) (round_same b n same))
    more many (inr rises) = inr (omega arith)

-- a further round over the clean values changes nothing
pub clean_settled : (b : Book) → settled b (clean b) ≡ clean b
clean_settled b = elim (rounds b (length (rules_of b) + 1)) [
  | inl done ↦ done
  | inr many ↦ absurd (omega (arith, known_all (val b (length (rules_of b) + 1)) (rules_of b)))
]

pub clean_at : (b : Book) (k : List ℕ) → clean b k ≡ valued (content b k) (λ e. result_ok (eval b.kind (clean b) e))
clean_at b k = sym (ap (λ (t : Truth). t k) (clean_settled b))

pub clean_rule : (b : Book) (k : List ℕ) (e : Tree) → content b k ≡ Some (rule e) → clean b k ≡ result_ok (eval b.kind (clean b) e)
clean_rule b k e is = clean_at b k ∙ ap (λ o. valued o (λ e. result_ok (eval b.kind (clean b) e))) is

pub clean_input : (b : Book) (k : List ℕ) (v : Value) → content b k ≡ Some (input v) → clean b k ≡ Some v
clean_input b k v is = clean_at b k ∙ ap (λ o. valued o (λ e. result_ok (eval b.kind (clean b) e))) is

pub clean_nothing : (b : Book) (k : List ℕ) → content b k ≡ None → clean b k ≡ None
clean_nothing b k is = clean_at b k ∙ ap (λ o. valued o (λ e. result_ok (eval b.kind (clean b) e))) is

-- the values of every round are clean
pub val_clean : (b : Book) (n : ℕ) → Extends (val b n) (clean b)
val_clean b zero k v h = rw (clean_at b k) (valued_kept (content b k) (λ e. None) (λ e. result_ok (eval b.kind (clean b) e)) (λ e w is. cc) v h)
val_clean b (suc n) k v h = clean_at b k ∙ settled_kept b (val b n) (clean b) (val_clean b n) k v h

-- it has nothing, or its formula stops, over a part of the clean values, at another name of the kind
abbrev pub IsHeld : Book → (List ℕ → Type 0) → List ℕ → Type 0
IsHeld b P k = (content b k ≡ None) ⊎ ((e : Tree) × (content b k ≡ Some (rule e)) × (t : Truth) × Extends t (clean b) × (j : List ℕ) × (eval b.kind t e ≡ Err j) × P j)

-- names that hold one another have no clean value
pub no_clean : (b : Book) (P : List ℕ → Type 0) → ((k : List ℕ) → P k → IsHeld b P k) → (k : List ℕ) → P k → clean b k ≡ None
no_clean b P held k p = none (length (rules_of b) + 1) k p
  where
    none : (n : ℕ) (k : List ℕ) → P k → val b n k ≡ None
    none zero k p = elim (held k p) [
      | inl nothing ↦ rw nothing refl
      | inr stops ↦ rw stops.1 refl
    ]
    none (suc n) k p = elim (held k p) [
      | inl nothing ↦ rw nothing refl
      | inr stops ↦ rw stops.1 (stopped stops.0 stops.2 stops.4 stops.3 stops.5 (none n stops.4 stops.6) (eval b.kind (val b n) stops.0) refl)
    ]
      where
        stopped : (e : Tree) (t : Truth) (j : List ℕ) → Extends t (clean b) → eval b.kind t e ≡ Err j → val b n j ≡ None → (r : Result Value (List ℕ)) → eval b.kind (val b n) e ≡ r → result_ok r ≡ None
        stopped e t j more stop open_at (Err i) is = refl
        stopped e t j more stop open_at (Ok v) is = let has = stop_has_value t (val b n) (clean b) (asks b.kind e) j v more (val_clean b n) stop is in cc

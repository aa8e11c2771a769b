-- Names put into a set.
use Rattle.std.proofs.Common.{◌≡◌, ◌⊎◌, ℕ, Bool, true, false, cond, ◌||◌, is_eq, List, [], ◌∷◌, ◌++◌, refl, ap, sym, ◌∙◌, subst, inl, inr}
use Rattle.std.specs.BTreeSet.{BTreeSet, contains}
use Rattle.std.specs.Ordering.{eq_by_cmp}
use Rattle.std.specs.BTreeMap.{is_at}
use Rattle.std.specs.declared.cmp.Ordering.TheVariants.{Less}
use Rattle.std.specs.List.{AllByRecursion}
use Rattle.std.specs.List.Sorted.{IsStrictlySortedBy}
use Rattle.std.specs.List.{list_any}
use Rattle.std.specs.Cmp.{eq_by_cmp_equiv}
use Rattle.std.proofs.lemmas.Cmp.{nat_list_cmp_total}
use Rattle.carte_name.specs.Names.{name_cmp}
use Rattle.carte_value.specs.Truths.{Among, NoneTwice}
use Rattle.carte_value.proofs.Members.{among_append, among_left, among_right}
use Rattle.carte_book.proofs.Clean.{tied_name}
use Rattle.carte_wave.specs.Front.{AddsEach}

tied_self : (k : List ℕ) → eq_by_cmp name_cmp k k ≡ true
tied_self k = (eq_by_cmp_equiv nat_list_cmp_total).refl k

-- what one name more makes of a set
module _ (old new : List ℕ → Bool) (k : List ℕ) (put : (q : List ℕ) → new q ≡ cond (eq_by_cmp name_cmp k q) true (old q)) where
  pub put_only : (q : List ℕ) → new q ≡ true → (q ≡ k) ⊎ (old q ≡ true)
  put_only q is = on (eq_by_cmp name_cmp k q) refl
    where
      on : (t : Bool) → eq_by_cmp name_cmp k q ≡ t → (q ≡ k) ⊎ (old q ≡ true)
      on true tied = inl (sym (tied_name k q tied))
      on false apart = inr (sym (rw apart at (put q)) ∙ is)

  pub put_stays : (q : List ℕ) → old q ≡ true → new q ≡ true
  put_stays q is = put q ∙ on (eq_by_cmp name_cmp k q)
    where
      on : (t : Bool) → cond t true (old q) ≡ true
      on true = refl
      on false = is

  pub put_there : new k ≡ true
  put_there = rw (put k, tied_self k) refl

pub adds_none : (s : BTreeSet (List ℕ)) → AddsEach [] s s
adds_none s = record { only = λ q is. inr is; stays = λ q is. is; there = λ q never. absurd never }

pub adds_end : (ks : List (List ℕ)) (k : List ℕ) (old mid new : BTreeSet (List ℕ)) → AddsEach ks old mid → ((q : List ℕ) → contains name_cmp new q ≡ cond (eq_by_cmp name_cmp k q) true (contains name_cmp mid q)) → AddsEach (ks ++ k ∷ []) old new
adds_end ks k old mid new adds put = record {
  only = λ q is. elim (put_only (contains name_cmp mid) (contains name_cmp new) k put q is) [
    | inl same ↦ inl (among_right ks (k ∷ []) q (inl same))
    | inr before ↦ elim (adds.only q before) [
      | inl here ↦ inl (among_left ks (k ∷ []) q here)
      | inr there ↦ inr there
    ]
  ];
  stays = λ q is. put_stays (contains name_cmp mid) (contains name_cmp new) k put q (adds.stays q is);
  there = λ q here. elim (among_append ks (k ∷ []) q here) [
    | inl before ↦ put_stays (contains name_cmp mid) (contains name_cmp new) k put q (adds.there q before)
    | inr last ↦ elim last [
      | inl same ↦ rw same (put_there (contains name_cmp mid) (contains name_cmp new) k put)
      | inr never ↦ absurd never
    ]
  ];
}

-- the keys of a set
any_among : (ks : List (List ℕ)) (k : List ℕ) → list_any (is_at (name_cmp k)) ks ≡ true → Among ks k
any_among [] k never = cc
any_among (j ∷ js) k here = on (eq_by_cmp name_cmp k j) refl here (any_among js k)
  where
    on : (t : Bool) → eq_by_cmp name_cmp k j ≡ t → (t || list_any (is_at (name_cmp k)) js) ≡ true → (list_any (is_at (name_cmp k)) js ≡ true → Among js k) → Among (j ∷ js) k
    on true tied h rest = inl (tied_name k j tied)
    on false apart h rest = inr (rest h)

among_any : (ks : List (List ℕ)) (k : List ℕ) → Among ks k → list_any (is_at (name_cmp k)) ks ≡ true
among_any [] k never = absurd never
among_any (j ∷ js) k (inl same) = ap (λ t. t || list_any (is_at (name_cmp k)) js) (subst (λ i. eq_by_cmp name_cmp k i ≡ true) same (tied_self k))
among_any (j ∷ js) k (inr later) = on (eq_by_cmp name_cmp k j) (among_any js k later)
  where
    on : (t : Bool) → list_any (is_at (name_cmp k)) js ≡ true → (t || list_any (is_at (name_cmp k)) js) ≡ true
    on true rest = refl
    on false rest = rest

pub in_keys : (s : BTreeSet (List ℕ)) (k : List ℕ) → contains name_cmp s k ≡ true → Among s.keys k
in_keys s k is = any_among s.keys k is

pub in_set : (s : BTreeSet (List ℕ)) (k : List ℕ) → Among s.keys k → contains name_cmp s k ≡ true
in_set s k here = among_any s.keys k here

-- names in name order stand there once
first_apart : (k : List ℕ) (ks : List (List ℕ)) → AllByRecursion (λ j. name_cmp k j ≡ Less) ks → ¬ (Among ks k)
first_apart k [] all never = never
first_apart k (j ∷ js) all here = elim here [
  | inl same ↦ (let less : name_cmp k k ≡ Less = subst (λ i. name_cmp k i ≡ Less) (sym same) all.0 in let both : false ≡ true = sym (ap is_eq less) ∙ tied_self k in cc)
  | inr later ↦ first_apart k js all.1 later
]

pub rising_once : (ks : List (List ℕ)) → IsStrictlySortedBy name_cmp ks → NoneTwice ks
unfolding IsStrictlySortedBy
rising_once [] rising = tt
rising_once (k ∷ ks) rising = (first_apart k ks rising.0, rising_once ks rising.1)

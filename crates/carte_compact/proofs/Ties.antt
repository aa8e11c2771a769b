-- Values that were put in the order of their digests: the first one of a digest is still the first.
use Rattle.std.proofs.Common.{◌≡◌, ℕ, Bool, true, false, not, cond, List, [], ◌∷◌, Option, Some, None, refl, ap, sym, ◌∙◌, subst, filter}
use Rattle.std.specs.Prelude.{◌&&◌, find}
use Rattle.std.specs.Cmp.Lexicographic.{texts_ties}
use Rattle.std.specs.List.Sorted.{ties}
use Rattle.std.specs.Ordering.{is_eq, is_lt, ordering_reverse}
use Rattle.std.specs.declared.cmp.Ordering.{Ordering}
use Rattle.std.specs.declared.cmp.Ordering.TheVariants.{Less, Equal, Greater}
use Rattle.std.proofs.lemmas.Cmp.{nat_list_cmp_total}
use Rattle.carte_name.specs.Names.{name_cmp, name_eq}
use Rattle.carte_value.specs.declared.digest.Digest.{Digest}
use Rattle.carte_value.specs.declared.value.Value.{Value}
use Rattle.carte_value.specs.Spelling.{digest_of}
use Rattle.carte_table.specs.Lookups.{first_value, is_value_of}
use Rattle.carte_record.proofs.Looked.{digest_eq_is, find_passes}
use Rattle.carte_compact.specs.Live.{IsByDigest, order_of}

abbrev front : {A : Type 0} → List A → Option A
front [] = None
front (x ∷ xs) = Some x

found_front : {A : Type 0} (p : A → Bool) (xs : List A) → find p xs ≡ front (filter p xs)
found_front p [] = refl
found_front {A = A} p (x ∷ xs) = on (p x) (found_front p xs)
  where
    on : (b : Bool) → find p xs ≡ front (filter p xs) → cond b (Some x) (find p xs) ≡ front (cond b (x ∷ filter p xs) (filter p xs))
    on true rest = refl
    on false rest = rest

abbrev pub below : Value → Value → Bool
below v w = is_lt (name_cmp (order_of v) (order_of w))

-- what ties are the same digests
tie : (k j : List ℕ) → (not (is_lt (name_cmp k j)) && not (is_lt (name_cmp j k))) ≡ name_eq k j
tie k j = ap (λ o. not (is_lt (name_cmp k j)) && not (is_lt o)) (nat_list_cmp_total.antisymm j k) ∙ on (name_cmp k j) ∙ sym (texts_ties k j)
  where
    on : (o : Ordering) → (not (is_lt o) && not (is_lt (ordering_reverse o))) ≡ is_eq o
    on Less = refl
    on Equal = refl
    on Greater = refl

module _ (all listed : List Value) (by : IsByDigest all listed) where
  pub of_one : (v : Value) → filter (is_value_of (digest_of v)) listed ≡ filter (is_value_of (digest_of v)) all
  of_one v =
      let same : ties below v ≡ is_value_of (digest_of v) = λ i w. tie (order_of v) (order_of w) i in
      subst (λ p. filter p listed ≡ filter p all) same (by.stable v)

  from_one : (d : Digest) (v : Value) → is_value_of d v ≡ true → first_value listed d ≡ first_value all d
  from_one d v is =
      let here : first_value listed (digest_of v) ≡ first_value all (digest_of v) =
      found_front (is_value_of (digest_of v)) listed ∙ ap front (of_one v) ∙ sym (found_front (is_value_of (digest_of v)) all)
      in subst (λ e. first_value listed e ≡ first_value all e) (sym (digest_eq_is d (digest_of v) is)) here

  pub first_stays : (d : Digest) → first_value listed d ≡ first_value all d
  first_stays d = on (first_value listed d) refl (first_value all d) refl
    where
      on : (o : Option Value) → first_value listed d ≡ o → (p : Option Value) → first_value all d ≡ p → o ≡ p
      on (Some v) is p is' = sym is ∙ from_one d v (find_passes (is_value_of d) listed v is) ∙ is'
      on None is (Some v) is' = sym is ∙ from_one d v (find_passes (is_value_of d) all v is') ∙ is'
      on None is None is' = refl

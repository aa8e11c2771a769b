-- Names in name order, each once.
use Rattle.std.proofs.Common.{◌≡◌, ◌⊎◌, ℕ, ◌≤◌, List, [], ◌∷◌, length, is_eq, true, false, refl, ap, sym, ◌∙◌, subst, inl, inr, arith}
use Rattle.std.specs.declared.cmp.Ordering.{Ordering}
use Rattle.std.specs.declared.cmp.Ordering.TheVariants.{Less, Equal, Greater}
use Rattle.std.specs.List.{AllByRecursion}
use Rattle.std.specs.List.Sorted.{IsStrictlySortedBy}
use Rattle.std.specs.BTreeSet.{insert_key}
use Rattle.std.specs.Ordering.{eq_by_cmp, match_ordering, ordering_reverse}
use Rattle.std.specs.Cmp.{eq_by_cmp_equiv}
use Rattle.std.proofs.lemmas.Cmp.{nat_list_cmp_total}
use Rattle.carte_name.specs.Names.{name_cmp}
use Rattle.carte_value.specs.Truths.{Among, IsListOf, NoneTwice}
use Rattle.carte_engine.specs.Sorted.{sorted}
use Rattle.carte_value.proofs.Members.{no_longer}
use Rattle.carte_book.proofs.Clean.{tied_name}
use Rattle.carte_compact.proofs.Sizes.{one_list}
use Rattle.carte_mark.proofs.Listing.{IsInOrder, in_order}

abbrev Below : List ℕ → List (List ℕ) → Type 0
Below k ks = AllByRecursion (λ j. name_cmp k j ≡ Less) ks

turned : (k x : List ℕ) → name_cmp k x ≡ Greater → name_cmp x k ≡ Less
turned k x is = nat_list_cmp_total.antisymm x k ∙ ap ordering_reverse is

below_more : (k x : List ℕ) (ks : List (List ℕ)) → name_cmp k x ≡ Less → Below x ks → Below k ks
below_more k x [] is below = tt
below_more k x (j ∷ js) is below = (nat_list_cmp_total.trans k x j is below.0, below_more k x js is below.1)

below_put : (x k : List ℕ) (ks : List (List ℕ)) → name_cmp x k ≡ Less → Below x ks → Below x (insert_key name_cmp ks k)
below_put x k [] is below = (is, tt)
below_put x k (j ∷ js) is below = on (name_cmp k j) (below_put x k js is below.1)
  where
    on : (o : Ordering) → Below x (insert_key name_cmp js k) → Below x (match_ordering o (k ∷ j ∷ js) (j ∷ js) (j ∷ insert_key name_cmp js k))
    on Less rest = (is, below)
    on Equal rest = below
    on Greater rest = (below.0, rest)

put_at_place : (k x : List ℕ) (xs : List (List ℕ)) (o : Ordering) → name_cmp k x ≡ o → IsStrictlySortedBy name_cmp (x ∷ xs) → IsStrictlySortedBy name_cmp (insert_key name_cmp xs k)
    → IsStrictlySortedBy name_cmp (match_ordering o (k ∷ x ∷ xs) (x ∷ xs) (x ∷ insert_key name_cmp xs k))
unfolding IsStrictlySortedBy
put_at_place k x xs Less is old rest = ((is, below_more k x xs is old.0), old)
put_at_place k x xs Equal is old rest = old
put_at_place k x xs Greater is old rest = (below_put x k xs (turned k x is) old.0, rest)

tail_rising : (x : List ℕ) (xs : List (List ℕ)) → IsStrictlySortedBy name_cmp (x ∷ xs) → IsStrictlySortedBy name_cmp xs
unfolding IsStrictlySortedBy
tail_rising x xs rising = rising.1

one_rising : (k : List ℕ) → IsStrictlySortedBy name_cmp (k ∷ [])
unfolding IsStrictlySortedBy
one_rising k = (tt, tt)

put_rising : (ks : List (List ℕ)) (k : List ℕ) → IsStrictlySortedBy name_cmp ks → IsStrictlySortedBy name_cmp (insert_key name_cmp ks k)
put_rising [] k rising = one_rising k
put_rising (x ∷ xs) k rising = put_at_place k x xs (name_cmp k x) refl rising (put_rising xs k (tail_rising x xs rising))

put_only : (ks : List (List ℕ)) (k q : List ℕ) → Among (insert_key name_cmp ks k) q → (q ≡ k) ⊎ Among ks q
put_only [] k q there = there
put_only (x ∷ xs) k q there = on (name_cmp k x) there (put_only xs k q)
  where
    on : (o : Ordering) → Among (match_ordering o (k ∷ x ∷ xs) (x ∷ xs) (x ∷ insert_key name_cmp xs k)) q → (Among (insert_key name_cmp xs k) q → (q ≡ k) ⊎ Among xs q) → (q ≡ k) ⊎ Among (x ∷ xs) q
    on Less h rest = h
    on Equal h rest = inr h
    on Greater (inl same) rest = inr (inl same)
    on Greater (inr later) rest = elim (rest later) [
      | inl same ↦ inl same
      | inr among ↦ inr (inr among)
    ]

put_each : (ks : List (List ℕ)) (k q : List ℕ) → (q ≡ k) ⊎ Among ks q → Among (insert_key name_cmp ks k) q
put_each [] k q there = there
put_each (x ∷ xs) k q there = on (name_cmp k x) refl there (put_each xs k q)
  where
    on : (o : Ordering) → name_cmp k x ≡ o → (q ≡ k) ⊎ Among (x ∷ xs) q → ((q ≡ k) ⊎ Among xs q → Among (insert_key name_cmp xs k) q) → Among (match_ordering o (k ∷ x ∷ xs) (x ∷ xs) (x ∷ insert_key name_cmp xs k)) q
    on Less is h rest = h
    on Equal is (inl same) rest = inl (same ∙ tied_name k x (ap is_eq is))
    on Equal is (inr among) rest = among
    on Greater is (inl same) rest = inr (rest (inl same))
    on Greater is (inr (inl same)) rest = inl same
    on Greater is (inr (inr later)) rest = inr (rest (inr later))

none_rising : IsStrictlySortedBy name_cmp []
unfolding IsStrictlySortedBy
none_rising = tt

pub sorted_list : (ks : List (List ℕ)) → IsListOf (Among ks) (sorted ks)
sorted_list [] = record { rising = none_rising; only = λ q there. there; each = λ q there. there }
sorted_list (k ∷ ks) =
    let rest = sorted_list ks in
    record {
      rising = put_rising (sorted ks) k rest.rising;
      only = λ q there. elim (put_only (sorted ks) k q there) [
        | inl same ↦ inl same
        | inr later ↦ inr (rest.only q later)
      ];
      each = λ q there. put_each (sorted ks) k q (elim there [
        | inl same ↦ inl same
        | inr later ↦ inr (rest.each q later)
      ]);
    }

-- no name stands twice in a list in name order
below_apart : (k : List ℕ) (ks : List (List ℕ)) → Below k ks → ¬ (Among ks k)
below_apart k [] below nowhere = nowhere
below_apart k (j ∷ js) below there = elim there [
  | inl same ↦ (let e : name_cmp k k ≡ Less = subst (λ i. name_cmp k i ≡ Less) (sym same) below.0 in let t : eq_by_cmp name_cmp k k ≡ true = (eq_by_cmp_equiv nat_list_cmp_total).refl k in let f : false ≡ true = sym (ap is_eq e) ∙ t in cc)
  | inr later ↦ below_apart k js below.1 later
]

pub rising_once : (ks : List (List ℕ)) → IsStrictlySortedBy name_cmp ks → NoneTwice ks
unfolding IsStrictlySortedBy
rising_once [] rising = tt
rising_once (k ∷ ks) rising = (below_apart k ks rising.0, rising_once ks rising.1)

-- lists of the same names, each once, are of one length
pub same_length : (xs ys : List (List ℕ)) → NoneTwice xs → NoneTwice ys → ((q : List ℕ) → Among xs q → Among ys q) → ((q : List ℕ) → Among ys q → Among xs q) → length xs ≡ length ys
same_length xs ys once twice into back =
    let le : length xs ≤ length ys = no_longer xs ys once into in
    let ge : length ys ≤ length xs = no_longer ys xs twice back in
    omega arith

-- the list has as many as the names, where none stands twice; and is the one list of the same names
pub sorted_length : (ks : List (List ℕ)) → NoneTwice ks → length ks ≡ length (sorted ks)
sorted_length ks once =
    let listed = sorted_list ks in
    same_length ks (sorted ks) once (rising_once (sorted ks) listed.rising) listed.each listed.only

pub sorted_is : (ks ordered once : List (List ℕ)) → IsInOrder ks ordered once → once ≡ sorted ks
sorted_is ks ordered once order = one_list (Among ks) once (sorted ks) (in_order ks ordered once order) (sorted_list ks)

pub sorted_again : (ks : List (List ℕ)) → sorted (sorted ks) ≡ sorted ks
sorted_again ks =
    let listed = sorted_list ks in
    let again = sorted_list (sorted ks) in
    one_list (Among ks) (sorted (sorted ks)) (sorted ks) (record {
      rising = again.rising;
      only = λ q there. listed.only q (again.only q there);
      each = λ q there. again.each q (listed.each q there);
    }) listed

-- Tables of users by number.
use Rattle.std.proofs.Common.{◌≡◌, ◌⊎◌, ℕ, suc, zero, ◌<◌, ◌≤◌, Bool, true, false, cond, List, [], ◌∷◌, ◌++◌, length, map, get_or, set, slice_index_or, slice_get, Option, Some, None, is_some, refl, ap, sym, ◌∙◌, subst, inl, inr, arith, append_assoc, length-append}
use Rattle.std.proofs.lemmas.List.{get_or-map, length-map}
use Rattle.std.specs.List.{list_any}
use Rattle.carte_name.specs.Names.{name_eq}
use Rattle.carte_value.specs.Firsts.{seen_also}
use Rattle.carte_value.specs.Lists.{Begins, Has}
use Rattle.carte_value.specs.Numbers.{number_of}
use Rattle.carte_value.specs.Truths.{Among, NoneTwice}
use Rattle.carte_value.proofs.Numbered.{numbered_there}
use Rattle.carte_table.proofs.Names.{name_eq_is, name_eq_self}
use Rattle.carte_table.proofs.Steps.{begins_self}
use Rattle.carte_mark.specs.Tables.{AddsKey, AreWithin, Fills, Numbered, named, names_at, numbers_at, users_by}
use Rattle.carte_mark.proofs.Finding.{among_number}
use Rattle.carte_mark.proofs.Putting.{get_among, get_left, get_there}

-- ---- names of numbers

pub names_on : (ks : List (List ℕ)) (ns ms : List ℕ) → names_at ks (ns ++ ms) ≡ names_at ks ns ++ names_at ks ms
names_on ks [] ms = refl
names_on ks (n ∷ ns) ms = ap (λ js. named (slice_get ks n) ++ js) (names_on ks ns ms) ∙ sym (append_assoc (named (slice_get ks n)) (names_at ks ns) (names_at ks ms))

get_same : (ks zs : List (List ℕ)) (n : ℕ) → n < length ks → slice_get (ks ++ zs) n ≡ slice_get ks n
get_same ks zs n below = let there = get_there ks n below in get_left ks zs n there.0 there.1 ∙ sym there.1

pub get_begun : (ks ns : List (List ℕ)) (n : ℕ) (q : List ℕ) → Begins ks ns → slice_get ks n ≡ Some q → slice_get ns n ≡ Some q
get_begun ks ns n q begins there = subst (λ is. slice_get is n ≡ Some q) (sym begins.1) (get_left ks begins.0 n q there)

-- more names change none
names_grown : (ks zs : List (List ℕ)) (ns : List ℕ) → ((m : ℕ) → Has ns m → m < length ks) → names_at (ks ++ zs) ns ≡ names_at ks ns
names_grown ks zs [] within = refl
names_grown ks zs (n ∷ ns) within =
    ap (λ o. named o ++ names_at (ks ++ zs) ns) (get_same ks zs n (within n (inl refl))) ∙ ap (λ js. named (slice_get ks n) ++ js) (names_grown ks zs ns (λ m has. within m (inr has)))

-- ---- numbers of names

same_place : (ks : List (List ℕ)) (q : List ℕ) (m n : ℕ) → NoneTwice ks → slice_get ks m ≡ Some q → slice_get ks n ≡ Some q → m ≡ n
same_place [] q m n once one two = cc
same_place (k ∷ ks) q zero zero once one two = refl
same_place (k ∷ ks) q zero (suc n) once one two = let same : k ≡ q = cc in absurd (once.0 (subst (Among ks) (sym same) (get_among ks n q two)))
same_place (k ∷ ks) q (suc m) zero once one two = let same : k ≡ q = cc in absurd (once.0 (subst (Among ks) (sym same) (get_among ks m q one)))
same_place (k ∷ ks) q (suc m) (suc n) once one two = ap suc (same_place ks q m n once.1 one two)

number_at : (ks : List (List ℕ)) (q : List ℕ) (n : ℕ) → NoneTwice ks → slice_get ks n ≡ Some q → number_of ks q ≡ Some n
number_at ks q n once there = on (number_of ks q) refl
  where
    on : (o : Option ℕ) → number_of ks q ≡ o → number_of ks q ≡ Some n
    on (Some m) is = is ∙ ap Some (same_place ks q m n once (numbered_there ks q m is) there)
    on None is = let e : false ≡ true = ap is_some (sym is) ∙ among_number ks q (get_among ks n q there) in cc

beyond : (us : List (List ℕ)) (n : ℕ) → length us ≤ n → get_or us n [] ≡ []
beyond [] n past = refl
beyond (u ∷ us) zero past = absurd (omega (arith, past))
beyond (u ∷ us) (suc n) past = beyond us n (omega (arith, past))

-- more names change no list
numbers_grown : (ks zs us : List (List ℕ)) (q : List ℕ) → length us ≤ length ks → NoneTwice (ks ++ zs) → numbers_at us (number_of ks q) ≡ numbers_at us (number_of (ks ++ zs) q)
numbers_grown ks zs us q few once = on (number_of ks q) refl
  where
    new : (o : Option ℕ) → number_of (ks ++ zs) q ≡ o → number_of ks q ≡ None → [] ≡ numbers_at us o
    new None is none = refl
    new (Some n) is none = sym (beyond us n (either (ltb_or n)))
      where
        ltb_or : (n : ℕ) → (n < length ks) ⊎ (length ks ≤ n)
        ltb_or n = grind arith

        either : (n < length ks) ⊎ (length ks ≤ n) → length us ≤ n
        either (inr past) = omega (arith, few, past)
        either (inl below) =
            let there = sym (get_same ks zs n below) ∙ numbered_there (ks ++ zs) q n is in
            let e : false ≡ true = ap is_some (sym none) ∙ among_number ks q (get_among ks n q there) in cc

    on : (o : Option ℕ) → number_of ks q ≡ o → numbers_at us o ≡ numbers_at us (number_of (ks ++ zs) q)
    on (Some n) is = ap (numbers_at us) (sym (number_at (ks ++ zs) q n once (get_left ks zs n q (numbered_there ks q n is))))
    on None is = new (number_of (ks ++ zs) q) refl is

-- ---- lists

empty_last : (us : List (List ℕ)) (i : ℕ) → get_or (us ++ [] ∷ []) i [] ≡ get_or us i []
empty_last [] zero = refl
empty_last [] (suc i) = refl
empty_last (u ∷ us) zero = refl
empty_last (u ∷ us) (suc i) = empty_last us i

pub fills_none : (count : ℕ) (us : List (List ℕ)) → Fills count us us
fills_none count us = record { same = λ i. refl; few = λ few. few }

pub fills_more : (count : ℕ) (old mid new : List (List ℕ)) → length mid < count → new ≡ mid ++ [] ∷ [] → Fills count old mid → Fills count old new
fills_more count old mid new below is so = subst (Fills count old) (sym is) (record {
  same = λ i. empty_last mid i ∙ so.same i;
  few = λ few. (let long = length-append mid ([] ∷ []) in omega (arith, below, long));
})

-- at one place
put_place : (us : List (List ℕ)) (a : ℕ) (v : List ℕ) → a < length us → get_or (set us a v) a [] ≡ v
put_place [] a v below = absurd (omega (arith, below))
put_place (u ∷ us) zero v below = refl
put_place (u ∷ us) (suc a) v below = put_place us a v (omega (arith, below))

put_other : (us : List (List ℕ)) (a i : ℕ) (v : List ℕ) → ¬ (i ≡ a) → get_or (set us a v) i [] ≡ get_or us i []
put_other [] a i v other = refl
put_other (u ∷ us) zero zero v other = absurd (other refl)
put_other (u ∷ us) zero (suc i) v other = refl
put_other (u ∷ us) (suc a) zero v other = refl
put_other (u ∷ us) (suc a) (suc i) v other = put_other us a i v (λ same. other (ap suc same))

pub get_below : (ks : List (List ℕ)) (n : ℕ) (q : List ℕ) → slice_get ks n ≡ Some q → n < length ks
get_below [] n q is = cc
get_below (k ∷ ks) zero q is = omega arith
get_below (k ∷ ks) (suc n) q is = let below = get_below ks n q is in omega (arith, below)

set_length : (us : List (List ℕ)) (a : ℕ) (v : List ℕ) → length (set us a v) ≡ length us
set_length [] a v = refl
set_length (u ∷ us) zero v = refl
set_length (u ∷ us) (suc a) v = ap suc (set_length us a v)

has_on : (ns ms : List ℕ) (m : ℕ) → Has (ns ++ ms) m → Has ns m ⊎ Has ms m
has_on [] ms m has = inr has
has_on (n ∷ ns) ms m (inl same) = inl (inl same)
has_on (n ∷ ns) ms m (inr has) = elim (has_on ns ms m has) [
  | inl before ↦ inl (inr before)
  | inr behind ↦ inr behind
]

-- what is given a number stays behind the others
pub begins_seen : (ks : List (List ℕ)) (k : List ℕ) → Begins ks (seen_also ks k)
begins_seen ks k = on (list_any (name_eq k) ks)
  where
    on : (t : Bool) → Begins ks (cond t ks (ks ++ k ∷ []))
    on true = begins_self ks
    on false = (k ∷ [], refl)

-- ---- a key more

module _ (t : Numbered) (ks vs : List (List ℕ)) (within : AreWithin t) (begins : Begins t.names ks) (fills : Fills (length ks) t.users vs) where
  longer : length t.names ≤ length ks
  longer = let long = ap length begins.1 ∙ length-append t.names begins.0 in omega (arith, long)

  old_numbers : (i m : ℕ) → Has (get_or vs i []) m → m < length ks
  old_numbers i m has = let below = within.numbers i m (subst (λ ns. Has ns m) (fills.same i) has) in let far = longer in omega (arith, below, far)

  -- lists whose numbers have names
  pub within_set : (a : ℕ) (v : List ℕ) → a < length vs → ((m : ℕ) → Has v m → m < length ks) → AreWithin (record { names = ks; users = set vs a v })
  within_set a v below named_all = record {
    lists = (let few = fills.few (let one = within.lists in let two = longer in omega (arith, one, two)) in subst (λ n. n ≤ length ks) (sym (set_length vs a v)) few);
    numbers = λ i m has. at i m (same_or i a) has;
  }
    where
      same_or : (i a : ℕ) → (i ≡ a) ⊎ (¬ (i ≡ a))
      same_or zero zero = inl refl
      same_or zero (suc a) = inr (λ e. cc)
      same_or (suc i) zero = inr (λ e. cc)
      same_or (suc i) (suc a) = elim (same_or i a) [
        | inl same ↦ inl (ap suc same)
        | inr other ↦ inr (λ e. other (let f : i ≡ a = cc in f))
      ]

      at : (i m : ℕ) → (i ≡ a) ⊎ (¬ (i ≡ a)) → Has (get_or (set vs a v) i []) m → m < length ks
      at i m (inl same) has = named_all m (subst (λ ns. Has ns m) (ap (λ j. get_or (set vs a v) j []) same ∙ put_place vs a v below) has)
      at i m (inr other) has = old_numbers i m (subst (λ ns. Has ns m) (put_other vs a i v other) has)

  pub within_same : (a : ℕ) → a < length vs → AreWithin (record { names = ks; users = set vs a (get_or vs a []) })
  within_same a below = within_set a (get_or vs a []) below (old_numbers a)

  module _ (once : NoneTwice ks) (a b : ℕ) (name key : List ℕ) (below : a < length vs) (at : slice_get ks a ≡ Some name) (number : slice_get ks b ≡ Some key) where
    abbrev more : List ℕ
    more = get_or vs a [] ++ b ∷ []

    pub within_more : AreWithin (record { names = ks; users = set vs a more })
    within_more = within_set a more below (λ m has. elim (has_on (get_or vs a []) (b ∷ []) m has) [
      | inl before ↦ old_numbers a m before
      | inr here ↦ elim here [
        | inl same ↦ subst (λ n. n < length ks) (sym same) (get_below ks b key number)
        | inr nowhere ↦ absurd nowhere
      ]
    ])

    was : (q : List ℕ) → users_by t q ≡ names_at ks (numbers_at t.users (number_of ks q))
    was q =
        let grown = numbers_grown t.names begins.0 t.users q within.lists (subst NoneTwice begins.1 once) ∙ ap (λ ns. numbers_at t.users (number_of ns q)) (sym begins.1) in
        ap (names_at t.names) grown
        ∙ (sym (names_grown t.names begins.0 (numbers_at t.users (number_of ks q)) (all (number_of ks q)))
        ∙ ap (λ ns. names_at ns (numbers_at t.users (number_of ks q))) (sym begins.1))
      where
        all : (o : Option ℕ) (m : ℕ) → Has (numbers_at t.users o) m → m < length t.names
        all None m has = absurd has
        all (Some n) m has = within.numbers n m has

    pub adds_number : AddsKey (users_by t) (users_by (record { names = ks; users = set vs a more })) name key
    adds_number q = on (number_of ks q) (name_eq name q) refl refl ∙ ap (λ js. cond (name_eq name q) (js ++ key ∷ []) js) (sym (was q))
      where
        on : (o : Option ℕ) (s : Bool) → number_of ks q ≡ o → name_eq name q ≡ s → names_at ks (numbers_at (set vs a more) o) ≡ cond s (names_at ks (numbers_at t.users o) ++ key ∷ []) (names_at ks (numbers_at t.users o))
        on None true is same =
            let e : Some a ≡ None = sym (number_at ks name a once at) ∙ (ap (number_of ks) (name_eq_is name q same) ∙ is) in
            cc
        on None false is other = refl
        on (Some n) true is same =
            let place : n ≡ a = same_place ks q n a once (numbered_there ks q n is) (at ∙ ap Some (name_eq_is name q same)) in
            ap (λ i. names_at ks (get_or (set vs a more) i [])) place
            ∙ (ap (names_at ks) (put_place vs a more below)
            ∙ (names_on ks (get_or vs a []) (b ∷ [])
            ∙ (ap (λ o. names_at ks (get_or vs a []) ++ (named o ++ [])) number
            ∙ ap (λ ns. names_at ks ns ++ key ∷ []) (fills.same a ∙ ap (λ i. get_or t.users i []) (sym place)))))
        on (Some n) false is other =
            let apart : ¬ (n ≡ a) = λ e.
            let both : Some q ≡ Some name = sym (numbered_there ks q n is) ∙ (ap (slice_get ks) e ∙ at) in
            let same : q ≡ name = cc in
            let f : false ≡ true = sym other ∙ (ap (name_eq name) same ∙ name_eq_self name) in
            cc
            in
            ap (names_at ks) (put_other vs a n more apart ∙ fills.same n)

-- ---- lists that stand in something

module _ {V : Type 0} (f : V → List ℕ) where
  item_at : (xs : List V) (a : ℕ) (x : V) → a < length xs → x ≡ slice_index_or xs a x → get_or (map f xs) a [] ≡ f x
  item_at xs a x below is = get_or-map f xs a x [] below ∙ ap f (sym is)

  put_is : (xs : List V) (a : ℕ) (w : V) → map f (set xs a w) ≡ set (map f xs) a (f w)
  put_is [] a w = refl
  put_is (x ∷ xs) zero w = refl
  put_is (x ∷ xs) (suc a) w = ap (λ us. f x ∷ us) (put_is xs a w)

  -- with a number more
  pub put_more : (xs : List V) (a b : ℕ) (x w : V) → a < length xs → x ≡ slice_index_or xs a x → f w ≡ f x ++ b ∷ [] → map f (set xs a w) ≡ set (map f xs) a (get_or (map f xs) a [] ++ b ∷ [])
  put_more xs a b x w below is new = put_is xs a w ∙ ap (set (map f xs) a) (new ∙ ap (λ ns. ns ++ b ∷ []) (sym (item_at xs a x below is)))

  -- with the same
  pub put_same : (xs : List V) (a : ℕ) (x w : V) → a < length xs → x ≡ slice_index_or xs a x → f w ≡ f x → map f (set xs a w) ≡ set (map f xs) a (get_or (map f xs) a [])
  put_same xs a x w below is new = put_is xs a w ∙ ap (set (map f xs) a) (new ∙ sym (item_at xs a x below is))

  pub many : (xs : List V) → length (map f xs) ≡ length xs
  many xs = length-map xs f

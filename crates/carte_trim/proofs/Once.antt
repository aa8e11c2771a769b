-- The newest items of each key, of a list in which each stands once.
use Rattle.std.proofs.Common.{◌≡◌, ◌⊎◌, ℕ, zero, suc, ◌<◌, ◌≤◌, Bool, true, false, not, cond, List, [], ◌∷◌, ◌++◌, length, filter, take, refl, ap, sym, ◌∙◌, subst, inl, inr, arith, append_assoc}
use Rattle.std.specs.Prelude.{nat_lt, ◌||◌, if◌then◌else◌}
use Rattle.std.specs.List.{list_any}
use Rattle.std.proofs.lemmas.Bool.{ltb-false, ltb-true}
use Rattle.carte_name.specs.Names.{name_eq}
use Rattle.carte_value.specs.Lists.{Has}
use Rattle.carte_table.proofs.Names.{name_eq_is, name_eq_self}
use Rattle.carte_table.specs.Latest as latest
use Rattle.carte_table.specs.Lookups.{has_key}
use Rattle.carte_record.specs.declared.way.Way.{Way}
use Rattle.carte_record.specs.Kept.{newest, newest_in, traces_in}
use Rattle.carte_record.specs.Latest.{last_ones}
use Rattle.carte_record.specs.Ways.{TraceBy, key_by, eq_by}
use Rattle.carte_record.proofs.Looked.{eq_by_is, eq_by_self}
use Rattle.carte_sound.specs.Lists.{EachOnce}
use Rattle.carte_trim.specs.Lists.{count_of, newest_of}

take_all : {A : Type 0} (n : ℕ) (xs : List A) → length xs ≤ n → take n xs ≡ xs
take_all zero [] short = refl
take_all zero (x ∷ xs) short = absurd (omega (arith, short))
take_all (suc n) [] short = refl
take_all (suc n) (x ∷ xs) short = ap (λ ys. x ∷ ys) (take_all n xs (omega (arith, short)))

take_less : {A : Type 0} (n : ℕ) (xs ys : List A) → n ≤ length xs → take n (xs ++ ys) ≡ take n xs
take_less zero xs ys long = refl
take_less (suc n) [] ys long = absurd (omega (arith, long))
take_less (suc n) (x ∷ xs) ys long = ap (λ zs. x ∷ zs) (take_less n xs ys (omega (arith, long)))

-- ---- lists in which each item stands once

module _ {A : Type 0} (alike : A → A → Bool) (alike_self : (x : A) → alike x x ≡ true) where
  pub from_last : (ts : List A) (t : A) → Has (latest.last_ones alike ts) t → Has ts t
  from_last [] t has = has
  from_last (s ∷ ss) t has = on (list_any (alike s) ss) has (from_last ss t)
    where
      on : (b : Bool) → Has (if b then latest.last_ones alike ss else s ∷ latest.last_ones alike ss) t → (Has (latest.last_ones alike ss) t → Has ss t) → (t ≡ s) ⊎ Has ss t
      on true has rest = inr (rest has)
      on false (inl is) rest = inl is
      on false (inr has) rest = inr (rest has)

  there_is : (ts : List A) (t : A) → Has ts t → list_any (alike t) ts ≡ true
  there_is [] t has = absurd has
  there_is (s ∷ ss) t (inl is) = rw (subst (λ u. alike t u ≡ true) is (alike_self t)) refl
  there_is (s ∷ ss) t (inr has) = on (alike t s) (there_is ss t has)
    where
      on : (b : Bool) → list_any (alike t) ss ≡ true → b || list_any (alike t) ss ≡ true
      on true rest = refl
      on false rest = rest

  pub last_once : (ts : List A) → EachOnce (latest.last_ones alike ts)
  last_once [] = tt
  last_once (t ∷ ts) = on (list_any (alike t) ts) refl (last_once ts)
    where
      on : (b : Bool) → list_any (alike t) ts ≡ b → EachOnce (latest.last_ones alike ts) → EachOnce (if b then latest.last_ones alike ts else t ∷ latest.last_ones alike ts)
      on true is rest = rest
      on false is rest = ((λ has. let clash : true ≡ false = sym (there_is ts t (from_last ts t has)) ∙ is in cc), rest)

module _ {A : Type 0} (key : A → List ℕ) where
  pub from_newest : (n : ℕ) (ts : List A) (t : A) → Has (newest_of key n ts) t → Has ts t
  from_newest n [] t has = has
  from_newest n (s ∷ ss) t has = on (nat_lt (count_of key (key s) ss) n) has (from_newest n ss t)
    where
      on : (b : Bool) → Has (if b then s ∷ newest_of key n ss else newest_of key n ss) t → (Has (newest_of key n ss) t → Has ss t) → (t ≡ s) ⊎ Has ss t
      on true (inl is) rest = inl is
      on true (inr has) rest = inr (rest has)
      on false has rest = inr (rest has)

  pub newest_once : (n : ℕ) (ts : List A) → EachOnce ts → EachOnce (newest_of key n ts)
  newest_once n [] once = tt
  newest_once n (t ∷ ts) once = on (nat_lt (count_of key (key t) ts) n) (newest_once n ts once.1)
    where
      on : (b : Bool) → EachOnce (newest_of key n ts) → EachOnce (if b then t ∷ newest_of key n ts else newest_of key n ts)
      on true rest = ((λ has. once.0 (from_newest n ts t has)), rest)
      on false rest = rest

  -- ---- what such a list has of a key

  -- those of a key, the last first, in front of others
  abbrev pub turned : List ℕ → List A → List A → List A
  turned k [] old = old
  turned k (t ∷ ts) old = turned k ts (if name_eq k (key t) then t ∷ old else old)

  turned_on : (k : List ℕ) (ts old : List A) → turned k ts old ≡ turned k ts [] ++ old
  turned_on k [] old = refl
  turned_on k (t ∷ ts) old = on (name_eq k (key t)) (λ o. turned_on k ts o)
    where
      on : (b : Bool) → ((o : List A) → turned k ts o ≡ turned k ts [] ++ o) → turned k ts (if b then t ∷ old else old) ≡ turned k ts (if b then t ∷ [] else []) ++ old
      on true rest = rest (t ∷ old) ∙ sym (append_assoc (turned k ts []) (t ∷ []) old) ∙ ap (λ us. us ++ old) (sym (rest (t ∷ [])))
      on false rest = rest old

  turned_has : (k : List ℕ) (ts old : List A) (t : A) → Has (turned k ts old) t → Has ts t ⊎ Has old t
  turned_has k [] old t has = inr has
  turned_has k (s ∷ ss) old t has = on (name_eq k (key s)) (λ o there. turned_has k ss o t there) has
    where
      step : Has ss t ⊎ Has (s ∷ old) t → Has (s ∷ ss) t ⊎ Has old t
      step (inl later) = inl (inr later)
      step (inr (inl is)) = inl (inl is)
      step (inr (inr before)) = inr before

      skip : Has ss t ⊎ Has old t → Has (s ∷ ss) t ⊎ Has old t
      skip (inl later) = inl (inr later)
      skip (inr before) = inr before

      on : (b : Bool) → ((o : List A) → Has (turned k ss o) t → Has ss t ⊎ Has o t) → Has (turned k ss (if b then s ∷ old else old)) t → Has (s ∷ ss) t ⊎ Has old t
      on true rest has = step (rest (s ∷ old) has)
      on false rest has = skip (rest old has)

  has_turned : (ts old : List A) (t : A) → Has ts t ⊎ Has old t → Has (turned (key t) ts old) t
  has_turned [] old t (inl none) = absurd none
  has_turned [] old t (inr has) = has
  has_turned (s ∷ ss) old t has = on (name_eq (key t) (key s)) refl (λ o there. has_turned ss o t there) has
    where
      on : (b : Bool) → name_eq (key t) (key s) ≡ b → ((o : List A) → Has ss t ⊎ Has o t → Has (turned (key t) ss o) t) → Has (s ∷ ss) t ⊎ Has old t
          → Has (turned (key t) ss (if b then s ∷ old else old)) t
      on true same rest (inl (inl is)) = rest (s ∷ old) (inr (inl is))
      on true same rest (inl (inr later)) = rest (s ∷ old) (inl later)
      on true same rest (inr before) = rest (s ∷ old) (inr (inr before))
      on false other rest (inl (inl is)) = let clash : true ≡ false = sym (name_eq_self (key t)) ∙ ap (λ (u : A). name_eq (key t) (key u)) is ∙ other in cc
      on false other rest (inl (inr later)) = rest old (inl later)
      on false other rest (inr before) = rest old (inr before)

  -- ---- the newest of them

  count_turned : (k : List ℕ) (ts : List A) → length (turned k ts []) ≡ count_of key k ts
  count_turned k [] = refl
  count_turned k (t ∷ ts) = on (name_eq k (key t)) (count_turned k ts)
    where
      on : (b : Bool) → length (turned k ts []) ≡ count_of key k ts → length (turned k ts (if b then t ∷ [] else [])) ≡ length (cond b (t ∷ filter (has_key key k) ts) (filter (has_key key k) ts))
      on true rest = ap length (turned_on k ts (t ∷ [])) ∙ length_end (turned k ts []) t ∙ ap suc rest
        where
          length_end : (us : List A) (u : A) → length (us ++ u ∷ []) ≡ suc (length us)
          length_end [] u = refl
          length_end (v ∷ vs) u = ap suc (length_end vs u)
      on false rest = rest

  turned_newest : (n : ℕ) (k : List ℕ) (ts : List A) → turned k (newest_of key n ts) [] ≡ take n (turned k ts [])
  turned_newest zero k [] = refl
  turned_newest (suc n) k [] = refl
  turned_newest n k (t ∷ ts) = on (name_eq k (key t)) refl (nat_lt (count_of key (key t) ts) n) refl (turned_newest n k ts)
    where
      us : List A
      us = turned k ts []

      count : name_eq k (key t) ≡ true → length us ≡ count_of key (key t) ts
      count same = count_turned k ts ∙ ap (λ j. count_of key j ts) (name_eq_is k (key t) same)

      with_one : (vs : List A) → name_eq k (key t) ≡ true → turned k (t ∷ vs) [] ≡ turned k vs [] ++ t ∷ []
      with_one vs same = ap (λ b. turned k vs (if b then t ∷ [] else [])) same ∙ turned_on k vs (t ∷ [])

      without : (vs : List A) → name_eq k (key t) ≡ false → turned k (t ∷ vs) [] ≡ turned k vs []
      without vs other = ap (λ b. turned k vs (if b then t ∷ [] else [])) other

      on : (b : Bool) → name_eq k (key t) ≡ b → (c : Bool) → nat_lt (count_of key (key t) ts) n ≡ c → turned k (newest_of key n ts) [] ≡ take n us
          → turned k (if c then t ∷ newest_of key n ts else newest_of key n ts) [] ≡ take n (turned k (t ∷ ts) [])
      on true same true few rest =
          let fits : length us < n = omega (arith, count same, ltb-true (count_of key (key t) ts) n few) in
          with_one (newest_of key n ts) same ∙ ap (λ vs. vs ++ t ∷ []) (rest ∙ take_all n us (omega (arith, fits)))
          ∙ sym (ap (take n) (with_one ts same) ∙ take_all n (us ++ t ∷ []) (omega (arith, fits, length_append us)))
        where
          length_append : (vs : List A) → length (vs ++ t ∷ []) ≡ suc (length vs)
          length_append [] = refl
          length_append (v ∷ vs) = ap suc (length_append vs)
      on true same false many rest =
          let long : n ≤ length us = omega (arith, count same, ltb-false (count_of key (key t) ts) n many) in
          rest ∙ sym (ap (take n) (with_one ts same) ∙ take_less n us (t ∷ []) long)
      on false other true few rest = without (newest_of key n ts) other ∙ rest ∙ ap (take n) (sym (without ts other))
      on false other false many rest = rest ∙ ap (take n) (sym (without ts other))

module _ {A : Type 0} (key : A → List ℕ) (alike : A → A → Bool) (alike_is : (x y : A) → alike x y ≡ true → x ≡ y) where
  apart_stays : (t : A) (ts : List A) → ¬ (Has ts t) → filter (λ s. not (alike s t)) ts ≡ ts
  apart_stays t [] none = refl
  apart_stays t (s ∷ ss) none = on (alike s t) refl (apart_stays t ss (λ has. none (inr has)))
    where
      on : (b : Bool) → alike s t ≡ b → filter (λ u. not (alike u t)) ss ≡ ss → cond (not b) (s ∷ filter (λ u. not (alike u t)) ss) (filter (λ u. not (alike u t)) ss) ≡ s ∷ ss
      on true is rest = absurd (none (inl (sym (alike_is s t is))))
      on false is rest = ap (λ us. s ∷ us) rest

  once_turned : (k : List ℕ) (ts old : List A) → EachOnce ts → ((t : A) → Has ts t → ¬ (Has old t)) → newest_in key alike k ts old ≡ turned key k ts old
  once_turned k [] old once apart = refl
  once_turned k (t ∷ ts) old once apart = on (name_eq k (key t)) (once_turned k ts (t ∷ old) once.1 later) (once_turned k ts old once.1 (λ u has. apart u (inr has)))
    where
      stays : newest alike t old ≡ t ∷ old
      stays = ap (λ us. t ∷ us) (apart_stays t old (apart t (inl refl)))

      later : (u : A) → Has ts u → ¬ (Has (t ∷ old) u)
      later u has (inl is) = once.0 (subst (Has ts) is has)
      later u has (inr before) = apart u (inr has) before

      on : (b : Bool) → newest_in key alike k ts (t ∷ old) ≡ turned key k ts (t ∷ old) → newest_in key alike k ts old ≡ turned key k ts old
          → newest_in key alike k ts (if b then newest alike t old else old) ≡ turned key k ts (if b then t ∷ old else old)
      on true more rest = ap (newest_in key alike k ts) stays ∙ more
      on false more rest = rest

  pub turned_once : (k : List ℕ) (ts : List A) → EachOnce ts → newest_in key alike k ts [] ≡ turned key k ts []
  turned_once k ts once = once_turned k ts [] once (λ t has none. none)

  pub is_there : (ts : List A) (t : A) → EachOnce ts → Has ts t → Has (newest_in key alike (key t) ts []) t
  is_there ts t once has = subst (λ us. Has us t) (sym (turned_once (key t) ts once)) (has_turned key ts [] t (inl has))

  pub was_there : (k : List ℕ) (ts : List A) (t : A) → EachOnce ts → Has (newest_in key alike k ts []) t → Has ts t
  was_there k ts t once has = on (turned_has key k ts [] t (subst (λ us. Has us t) (turned_once k ts once) has))
    where
      on : Has ts t ⊎ ⊥ → Has ts t
      on (inl is) = is
      on (inr none) = absurd none

  pub newest_taken : (n : ℕ) (k : List ℕ) (ts : List A) → EachOnce ts → newest_in key alike k (newest_of key n ts) [] ≡ take n (newest_in key alike k ts [])
  newest_taken n k ts once = turned_once k (newest_of key n ts) (newest_once key n ts once) ∙ turned_newest key n k ts ∙ ap (take n) (sym (turned_once k ts once))

-- ---- and so it is for the traces of each kind

pub last_by : (w : Way) (ts : List (TraceBy w)) → EachOnce (last_ones w ts)
last_by w = last_once (eq_by w) (eq_by_self w)

pub there_by : (w : Way) (ts : List (TraceBy w)) (t : TraceBy w) → EachOnce ts → Has ts t → Has (traces_in w (key_by w t) ts []) t
there_by w = is_there (key_by w) (eq_by w) (eq_by_is w)

pub was_by : (w : Way) (k : List ℕ) (ts : List (TraceBy w)) (t : TraceBy w) → EachOnce ts → Has (traces_in w k ts []) t → Has ts t
was_by w = was_there (key_by w) (eq_by w) (eq_by_is w)

pub taken_by : (w : Way) (n : ℕ) (k : List ℕ) (ts : List (TraceBy w)) → EachOnce ts → traces_in w k (newest_of (key_by w) n ts) [] ≡ take n (traces_in w k ts [])
taken_by w = newest_taken (key_by w) (eq_by w) (eq_by_is w)

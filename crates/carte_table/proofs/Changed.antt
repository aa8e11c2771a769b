-- Lists with one item changed.
use Rattle.std.proofs.Common.{◌≡◌, ℕ, suc, ◌+◌, ◌<◌, Bool, true, false, cond, List, [], ◌∷◌, ◌++◌, length, take, get_or, Option, Some, None, refl, ap, sym, ◌∙◌, subst, set, slice_get}
use Rattle.std.proofs.lemmas.List.{take_more}
use Rattle.std.specs.Prelude.{filter, option_map, find, if◌then◌else◌}
use Rattle.carte_table.specs.Places.{first_place}
use Rattle.std.specs.List.{flat_map}
use Rattle.carte_table.specs.Changes.{all_changed, change_first}

-- where none passes
pub change_none : {A : Type 0} (p : A → Bool) (f : A → A) (xs : List A) → first_place p xs ≡ None → change_first p f xs ≡ xs
change_none p f [] is = refl
change_none {A = A} p f (x ∷ xs) is = on (p x) (first_place p xs) (change_none p f xs) is
  where
    on : (b : Bool) (o : Option ℕ) → (o ≡ None → change_first p f xs ≡ xs) → (if b then Some 0 else option_map suc o) ≡ None → (if b then f x ∷ xs else x ∷ change_first p f xs) ≡ x ∷ xs
    on true o before is = cc
    on false None before is = ap (λ ys. x ∷ ys) (before refl)
    on false (Some j) before is = cc

-- it is the one at the first place
pub change_at : {A : Type 0} (p : A → Bool) (f : A → A) (xs : List A) (i : ℕ) (y : A) → first_place p xs ≡ Some i → slice_get xs i ≡ Some y → change_first p f xs ≡ set xs i (f y)
change_at p f [] i y is there = cc
change_at {A = A} p f (x ∷ xs) i y is there = on (p x) (first_place p xs) (change_at p f xs) i is there
  where
    on : (b : Bool) (o : Option ℕ) → ((j : ℕ) (z : A) → o ≡ Some j → slice_get xs j ≡ Some z → change_first p f xs ≡ set xs j (f z))
        → (i : ℕ) → (if b then Some 0 else option_map suc o) ≡ Some i → slice_get (x ∷ xs) i ≡ Some y → (if b then f x ∷ xs else x ∷ change_first p f xs) ≡ set (x ∷ xs) i (f y)
    on true o before i is there = let e : 0 ≡ i = cc in subst (λ n. slice_get (x ∷ xs) n ≡ Some y → f x ∷ xs ≡ set (x ∷ xs) n (f y)) e (λ h. let same : x ≡ y = cc in ap (λ z. f z ∷ xs) same) there
    on false None before i is there = cc
    on false (Some j) before i is there = let e : suc j ≡ i = cc in subst (λ n. slice_get (x ∷ xs) n ≡ Some y → x ∷ change_first p f xs ≡ set (x ∷ xs) n (f y)) e (λ h. ap (λ ys. x ∷ ys) (before j y refl h)) there

pub put_at_place : {A : Type 0} (p : A → Bool) (y : A) (xs : List A) (i : ℕ) → first_place p xs ≡ Some i → change_first p (λ x. y) xs ≡ set xs i y
put_at_place p y [] i is = cc
put_at_place {A = A} p y (x ∷ xs) i is = on (p x) (first_place p xs) (put_at_place p y xs) i is
  where
    on : (b : Bool) (o : Option ℕ) → ((j : ℕ) → o ≡ Some j → change_first p (λ x. y) xs ≡ set xs j y)
        → (i : ℕ) → (if b then Some 0 else option_map suc o) ≡ Some i → (if b then y ∷ xs else x ∷ change_first p (λ x. y) xs) ≡ set (x ∷ xs) i y
    on true o before i is = let e : 0 ≡ i = cc in subst (λ n. y ∷ xs ≡ set (x ∷ xs) n y) e refl
    on false None before i is = cc
    on false (Some j) before i is = let e : suc j ≡ i = cc in subst (λ n. x ∷ change_first p (λ x. y) xs ≡ set (x ∷ xs) n y) e (ap (λ ys. x ∷ ys) (before j refl))

-- the first places stay, where a change keeps what is tested
pub place_kept : {A : Type 0} (q p : A → Bool) (f : A → A) (xs : List A) → ((y : A) → p y ≡ true → q (f y) ≡ q y) → first_place q (change_first p f xs) ≡ first_place q xs
place_kept q p f [] same = refl
place_kept {A = A} q p f (x ∷ xs) same = on (p x) (same x) (place_kept q p f xs same)
  where
    on : (b : Bool) → (b ≡ true → q (f x) ≡ q x) → first_place q (change_first p f xs) ≡ first_place q xs → first_place q (if b then f x ∷ xs else x ∷ change_first p f xs) ≡ first_place q (x ∷ xs)
    on true here is = rw (here refl) refl
    on false here is = rw is refl

-- what is found
pub find_changed : {A : Type 0} (p : A → Bool) (f : A → A) (xs : List A) → ((y : A) → p y ≡ true → p (f y) ≡ true) → find p (change_first p f xs) ≡ option_map f (find p xs)
find_changed p f [] passes = refl
find_changed {A = A} p f (x ∷ xs) passes = on (p x) refl (find_changed p f xs passes)
  where
    on : (b : Bool) → p x ≡ b → find p (change_first p f xs) ≡ option_map f (find p xs) → find p (if b then f x ∷ xs else x ∷ change_first p f xs) ≡ option_map f (cond b (Some x) (find p xs))
    on true here is = rw (passes x here) refl
    on false here is = rw here is

pub find_other : {A : Type 0} (q p : A → Bool) (f : A → A) (xs : List A) → ((y : A) → p y ≡ true → (q y ≡ false) × (q (f y) ≡ false)) → find q (change_first p f xs) ≡ find q xs
find_other q p f [] apart = refl
find_other {A = A} q p f (x ∷ xs) apart = on (p x) (apart x) (find_other q p f xs apart)
  where
    on : (b : Bool) → (b ≡ true → (q x ≡ false) × (q (f x) ≡ false)) → find q (change_first p f xs) ≡ find q xs → find q (if b then f x ∷ xs else x ∷ change_first p f xs) ≡ cond (q x) (Some x) (find q xs)
    on true here is = rw ((here refl).0, (here refl).1) refl
    on false here is = rw is refl

pub length_changed : {A : Type 0} (p : A → Bool) (f : A → A) (xs : List A) → length (change_first p f xs) ≡ length xs
length_changed p f [] = refl
length_changed {A = A} p f (x ∷ xs) = on (p x) (length_changed p f xs)
  where
    on : (b : Bool) → length (change_first p f xs) ≡ length xs → length (if b then f x ∷ xs else x ∷ change_first p f xs) ≡ suc (length xs)
    on true is = refl
    on false is = ap suc is

-- its bytes stay, where a change keeps those of each item
pub changed_spelling : {A : Type 0} (spelled : A → List ℕ) (p : A → Bool) (f : A → A) → ((x : A) → spelled (f x) ≡ spelled x) → (xs : List A) → flat_map spelled (change_first p f xs) ≡ flat_map spelled xs
changed_spelling spelled p f same [] = refl
changed_spelling {A = A} spelled p f same (x ∷ xs) = on (p x) (changed_spelling spelled p f same xs)
  where
    on : (b : Bool) → flat_map spelled (change_first p f xs) ≡ flat_map spelled xs → flat_map spelled (if b then f x ∷ xs else x ∷ change_first p f xs) ≡ spelled x ++ flat_map spelled xs
    on true rest = ap (λ bytes. bytes ++ flat_map spelled xs) (same x)
    on false rest = ap (λ bytes. spelled x ++ bytes) rest

-- keys that grow at their end
pub changed_end : {K A : Type 0} (is_of : K → A → Bool) (f : A → A) (xs : List A) (ks : List K) (k : K) → all_changed is_of f xs (ks ++ k ∷ []) ≡ change_first (is_of k) f (all_changed is_of f xs ks)
changed_end is_of f xs [] k = refl
changed_end is_of f xs (j ∷ js) k = changed_end is_of f (change_first (is_of j) f xs) js k

-- ---- items that are left out

filter_end : {A : Type 0} (p : A → Bool) (xs : List A) (x : A) → filter p (xs ++ x ∷ []) ≡ (if p x then filter p xs ++ x ∷ [] else filter p xs)
filter_end p [] x = refl
filter_end {A = A} p (y ∷ ys) x = on (p y) (p x) (filter_end p ys x)
  where
    on : (b c : Bool) → filter p (ys ++ x ∷ []) ≡ (if c then filter p ys ++ x ∷ [] else filter p ys)
        → cond b (y ∷ filter p (ys ++ x ∷ [])) (filter p (ys ++ x ∷ [])) ≡ (if c then cond b (y ∷ filter p ys) (filter p ys) ++ x ∷ [] else cond b (y ∷ filter p ys) (filter p ys))
    on true true is = ap (λ zs. y ∷ zs) is
    on true false is = ap (λ zs. y ∷ zs) is
    on false true is = is
    on false false is = is

-- of one item more in front
pub filter_more : {A : Type 0} (p : A → Bool) (xs : List A) (i : ℕ) (x : A) → i < length xs → x ≡ get_or xs i x → filter p (take (i + 1) xs) ≡ (if p x then filter p (take i xs) ++ x ∷ [] else filter p (take i xs))
filter_more p xs i x below is = ap (filter p) (take_more xs i x below ∙ ap (λ y. take i xs ++ y ∷ []) (sym is)) ∙ filter_end p (take i xs) x

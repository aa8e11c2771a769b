-- Loops that look for an item of a list, the first or the last.
use Rattle.std.proofs.Common.{◌≡◌, ◌<◌, ◌+◌, ℕ, zero, suc, Bool, true, false, cond, List, [], ◌∷◌, ◌++◌, take, length, get_or, arith, Option, Some, None, refl, ap, sym, ◌∙◌, subst}
use Rattle.std.specs.Prelude.{find, slice_get}
use Rattle.std.specs.Option.{option_or}
use Rattle.carte_table.specs.Lookups.{find_last}

pub found_at : {A : Type 0} (p : A → Bool) (xs : List A) (i : ℕ) (x : A) → find p (take i xs) ≡ None → slice_get xs i ≡ Some x → p x ≡ true → find p xs ≡ Some x
found_at p [] i x none is passes = cc
found_at p (y ∷ ys) zero x none is passes =
    let e : y ≡ x = cc in
    subst (λ z. find p (z ∷ ys) ≡ Some x) (sym e) (ap (λ t. cond t (Some x) (find p ys)) passes)
found_at {A = A} p (y ∷ ys) (suc i) x none is passes = on (p y) none (λ before. found_at p ys i x before is passes)
  where
    on : (t : Bool) → cond t (Some y) (find p (take i ys)) ≡ None → (find p (take i ys) ≡ None → find p ys ≡ Some x) → cond t (Some y) (find p ys) ≡ Some x
    on true none rest = cc
    on false none rest = rest none

pub missed_more : {A : Type 0} (p : A → Bool) (xs : List A) (i : ℕ) (x : A) → find p (take i xs) ≡ None → slice_get xs i ≡ Some x → p x ≡ false → find p (take (suc i) xs) ≡ None
missed_more p [] i x none is fails = cc
missed_more p (y ∷ ys) zero x none is fails =
    let e : y ≡ x = cc in
    subst (λ z. find p (z ∷ []) ≡ None) (sym e) (ap (λ t. cond t (Some x) None) fails)
missed_more {A = A} p (y ∷ ys) (suc i) x none is fails = on (p y) none (λ before. missed_more p ys i x before is fails)
  where
    on : (t : Bool) → cond t (Some y) (find p (take i ys)) ≡ None → (find p (take i ys) ≡ None → find p (take (suc i) ys) ≡ None) → cond t (Some y) (find p (take (suc i) ys)) ≡ None
    on true none rest = cc
    on false none rest = rest none

take_all : {A : Type 0} (xs : List A) → take (length xs) xs ≡ xs
take_all [] = refl
take_all (x ∷ xs) = ap (λ ys. x ∷ ys) (take_all xs)

take_more : {A : Type 0} (xs : List A) (i : ℕ) (x : A) → slice_get xs i ≡ Some x → take (suc i) xs ≡ take i xs ++ x ∷ []
take_more [] i x is = cc
take_more (y ∷ ys) zero x is = let e : y ≡ x = cc in ap (λ z. z ∷ []) e
take_more (y ∷ ys) (suc i) x is = ap (λ zs. y ∷ zs) (take_more ys i x is)

last_end : {A : Type 0} (p : A → Bool) (xs : List A) (x : A) → find_last p (xs ++ x ∷ []) ≡ cond (p x) (Some x) (find_last p xs)
last_end p [] x = refl
last_end {A = A} p (y ∷ ys) x = ap (λ o. option_or o (cond (p y) (Some y) None)) (last_end p ys x) ∙ on (p x)
  where
    on : (t : Bool) → option_or (cond t (Some x) (find_last p ys)) (cond (p y) (Some y) None) ≡ cond t (Some x) (option_or (find_last p ys) (cond (p y) (Some y) None))
    on true = refl
    on false = refl

pub last_more : {A : Type 0} (p : A → Bool) (xs : List A) (i : ℕ) (x : A) → slice_get xs i ≡ Some x → find_last p (take (suc i) xs) ≡ cond (p x) (Some x) (find_last p (take i xs))
last_more p xs i x is = ap (find_last p) (take_more xs i x is) ∙ last_end p (take i xs) x

item_at : {A : Type 0} (xs : List A) (i : ℕ) (x : A) → i < length xs → x ≡ get_or xs i x → slice_get xs i ≡ Some x
item_at [] i x below is = absurd (let never : i < 0 = below in omega (arith, never))
item_at (y ∷ ys) zero x below is = let e : x ≡ y = is in ap Some (sym e)
item_at (y ∷ ys) (suc i) x below is = item_at ys i x (omega (arith, below)) is

-- the same, as a loop over a list knows them
pub found_here : {A : Type 0} (p : A → Bool) (xs : List A) (i : ℕ) (x : A) → find p (take i xs) ≡ None → i < length xs → x ≡ get_or xs i x → p x ≡ true → Some x ≡ find p xs
found_here p xs i x none below is passes = sym (found_at p xs i x none (item_at xs i x below is) passes)

pub missed_here : {A : Type 0} (p : A → Bool) (xs : List A) (i : ℕ) (x : A) → find p (take i xs) ≡ None → i < length xs → x ≡ get_or xs i x → p x ≡ false → find p (take (i + 1) xs) ≡ None
missed_here p xs i x none below is fails =
    let next : i + 1 ≡ suc i = omega arith in
    subst (λ n. find p (take n xs) ≡ None) (sym next) (missed_more p xs i x none (item_at xs i x below is) fails)

pub last_passes : {A : Type 0} (p : A → Bool) (xs : List A) (i : ℕ) (x : A) → i < length xs → x ≡ get_or xs i x → p x ≡ true → Some x ≡ find_last p (take (i + 1) xs)
last_passes p xs i x below is passes =
    let next : i + 1 ≡ suc i = omega arith in
    subst (λ n. Some x ≡ find_last p (take n xs)) (sym next) (sym (last_more p xs i x (item_at xs i x below is) ∙ ap (λ t. cond t (Some x) (find_last p (take i xs))) passes))

pub last_fails : {A : Type 0} (p : A → Bool) (xs : List A) (i : ℕ) (x : A) (o : Option A) → o ≡ find_last p (take i xs) → i < length xs → x ≡ get_or xs i x → p x ≡ false → o ≡ find_last p (take (i + 1) xs)
last_fails p xs i x o was below is fails =
    let next : i + 1 ≡ suc i = omega arith in
    subst (λ n. o ≡ find_last p (take n xs)) (sym next) (was ∙ sym (last_more p xs i x (item_at xs i x below is) ∙ ap (λ t. cond t (Some x) (find_last p (take i xs))) fails))

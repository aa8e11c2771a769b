-- What is found in a list that is looked through, and in the front of one.
use Rattle.std.proofs.Common.{◌≡◌, ◌<◌, ◌+◌, ℕ, zero, suc, Bool, true, false, cond, List, [], ◌∷◌, Option, Some, None, find, take, length, get_or, arith, refl, ap, sym, subst}
use Rattle.std.specs.Prelude.{option_map, slice_get, if◌then◌else◌}
use Rattle.carte_table.specs.Places.{first_place}

-- what stands at the first place is found where the front has that place
pub finds_before : {A : Type 0} (p : A → Bool) (xs : List A) (n i : ℕ) → first_place p xs ≡ Some i → slice_get (take n xs) i ≡ find p (take n xs)
finds_before p [] n i is = cc
finds_before p (x ∷ xs) zero i is = refl
finds_before {A = A} p (x ∷ xs) (suc n) i is = on (p x) (first_place p xs) (finds_before p xs n) i is
  where
    on : (b : Bool) (o : Option ℕ) → ((j : ℕ) → o ≡ Some j → slice_get (take n xs) j ≡ find p (take n xs))
        → (i : ℕ) → (if b then Some 0 else option_map suc o) ≡ Some i → slice_get (x ∷ take n xs) i ≡ cond b (Some x) (find p (take n xs))
    on true o before i is = let e : 0 ≡ i = cc in rw (← e) refl
    on false None before i is = cc
    on false (Some j) before i is = let e : suc j ≡ i = cc in rw (← e) (before j refl)

-- where there is none in the list, there is none in its front
pub misses_before : {A : Type 0} (p : A → Bool) (xs : List A) (n : ℕ) → find p xs ≡ None → find p (take n xs) ≡ None
misses_before p xs zero is = refl
misses_before p [] (suc n) is = refl
misses_before {A = A} p (x ∷ xs) (suc n) is = on (p x) (misses_before p xs n) is
  where
    on : (b : Bool) → (find p xs ≡ None → find p (take n xs) ≡ None) → cond b (Some x) (find p xs) ≡ None → cond b (Some x) (find p (take n xs)) ≡ None
    on true rest is = cc
    on false rest is = rest is

item_at : {A : Type 0} (xs : List A) (i : ℕ) (x : A) → i < length xs → x ≡ get_or xs i x → slice_get xs i ≡ Some x
item_at [] i x below is = absurd (let never : i < 0 = below in omega (arith, never))
item_at (y ∷ ys) zero x below is = let e : x ≡ y = is in ap Some (sym e)
item_at (y ∷ ys) (suc i) x below is = item_at ys i x (omega (arith, below)) is

found_at : {A : Type 0} (p : A → Bool) (xs : List A) (i : ℕ) (x : A) → find p (take i xs) ≡ None → slice_get xs i ≡ Some x → p x ≡ true → find p xs ≡ Some x
found_at p [] i x none is passes = cc
found_at p (y ∷ ys) zero x none is passes =
    let e : y ≡ x = cc in
    subst (λ z. find p (z ∷ ys) ≡ Some x) (sym e) (ap (λ t. cond t (Some x) (find p ys)) passes)
found_at {A = A} p (y ∷ ys) (suc i) x none is passes = on (p y) none (λ before. found_at p ys i x before is passes)
  where
    on : (t : Bool) → cond t (Some y) (find p (take i ys)) ≡ None → (find p (take i ys) ≡ None → find p ys ≡ Some x) → cond t (Some y) (find p ys) ≡ Some x
    on true none rest = cc
    on false none rest = rest none

missed_more : {A : Type 0} (p : A → Bool) (xs : List A) (i : ℕ) (x : A) → find p (take i xs) ≡ None → slice_get xs i ≡ Some x → p x ≡ false → find p (take (suc i) xs) ≡ None
missed_more p [] i x none is fails = cc
missed_more p (y ∷ ys) zero x none is fails =
    let e : y ≡ x = cc in
    subst (λ z. find p (z ∷ []) ≡ None) (sym e) (ap (λ t. cond t (Some x) None) fails)
missed_more {A = A} p (y ∷ ys) (suc i) x none is fails = on (p y) none (λ before. missed_more p ys i x before is fails)
  where
    on : (t : Bool) → cond t (Some y) (find p (take i ys)) ≡ None → (find p (take i ys) ≡ None → find p (take (suc i) ys) ≡ None) → cond t (Some y) (find p (take (suc i) ys)) ≡ None
    on true none rest = cc
    on false none rest = rest none

-- an item that passes is the one that is found, where none before it did
pub found_here : {A : Type 0} (p : A → Bool) (xs : List A) (i : ℕ) (x : A) → find p (take i xs) ≡ None → i < length xs → x ≡ get_or xs i x → p x ≡ true → Some x ≡ find p xs
found_here p xs i x none below is passes = sym (found_at p xs i x none (item_at xs i x below is) passes)

-- and where it fails, none did up to it
pub missed_here : {A : Type 0} (p : A → Bool) (xs : List A) (i : ℕ) (x : A) → find p (take i xs) ≡ None → i < length xs → x ≡ get_or xs i x → p x ≡ false → find p (take (i + 1) xs) ≡ None
missed_here p xs i x none below is fails =
    let next : i + 1 ≡ suc i = omega arith in
    subst (λ n. find p (take n xs) ≡ None) (sym next) (missed_more p xs i x none (item_at xs i x below is) fails)

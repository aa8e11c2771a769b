-- Places of keys in lists.
use Rattle.std.proofs.Common.{◌≡◌, ℕ, suc, ◌<◌, Bool, true, false, cond, List, [], ◌∷◌, ◌++◌, length, Option, Some, None, refl, ap, sym, ◌∙◌, subst, map, arith}
use Rattle.std.specs.Prelude.{option_map, is_some, slice_get, find, if◌then◌else◌}
use Rattle.std.specs.Option.{option_or}
use Rattle.carte_table.specs.Places.{first_place, IsFirstPlaces, AddsPlace, ForgetsPlace}

later_or : (o : Option ℕ) (b : Bool) (n : ℕ) → option_map suc (option_or o (if b then Some n else None)) ≡ option_or (option_map suc o) (if b then Some (suc n) else None)
later_or None true n = refl
later_or None false n = refl
later_or (Some m) b n = refl

-- one item more
pub place_end : {A : Type 0} (p : A → Bool) (xs : List A) (x : A) → first_place p (xs ++ x ∷ []) ≡ option_or (first_place p xs) (if p x then Some (length xs) else None)
place_end p [] x = on (p x)
  where
    on : (b : Bool) → (if b then Some 0 else option_map suc None) ≡ option_or None (if b then Some 0 else None)
    on true = refl
    on false = refl
place_end {A = A} p (y ∷ ys) x = on (p y) (place_end p ys x)
  where
    on : (b : Bool) → first_place p (ys ++ x ∷ []) ≡ option_or (first_place p ys) (if p x then Some (length ys) else None)
        → (if b then Some 0 else option_map suc (first_place p (ys ++ x ∷ []))) ≡ option_or (if b then Some 0 else option_map suc (first_place p ys)) (if p x then Some (suc (length ys)) else None)
    on true is = refl
    on false is = rw is (later_or (first_place p ys) (p x) (length ys))

-- with the place of its key in the table
pub place_added : {K A : Type 0} (eq : K → K → Bool) (is_of : K → A → Bool) (xs : List A) (x : A) (k : K) (old new : K → Option ℕ) (n : ℕ) → n ≡ length xs
    → ((q : K) → is_of q x ≡ eq k q) → IsFirstPlaces is_of xs old → AddsPlace eq old new k n → IsFirstPlaces is_of (xs ++ x ∷ []) new
place_added eq is_of xs x k old new n end same is adds q = rw (adds q, is q, place_end (is_of q) xs x, same q, end) refl

-- what stands at the first place is the first item that passes
pub place_finds : {A : Type 0} (p : A → Bool) (xs : List A) (i : ℕ) → first_place p xs ≡ Some i → slice_get xs i ≡ find p xs
place_finds p [] i is = cc
place_finds {A = A} p (x ∷ xs) i is = on (p x) (first_place p xs) (place_finds p xs) i is
  where
    on : (b : Bool) (o : Option ℕ) → ((j : ℕ) → o ≡ Some j → slice_get xs j ≡ find p xs)
        → (i : ℕ) → (if b then Some 0 else option_map suc o) ≡ Some i → slice_get (x ∷ xs) i ≡ cond b (Some x) (find p xs)
    on true o before i is = let e : 0 ≡ i = cc in rw (← e) refl
    on false None before i is = cc
    on false (Some j) before i is = let e : suc j ≡ i = cc in rw (← e) (before j refl)

pub place_misses : {A : Type 0} (p : A → Bool) (xs : List A) → first_place p xs ≡ None → find p xs ≡ None
place_misses p [] is = refl
place_misses {A = A} p (x ∷ xs) is = on (p x) (first_place p xs) (place_misses p xs) is
  where
    on : (b : Bool) (o : Option ℕ) → (o ≡ None → find p xs ≡ None) → (if b then Some 0 else option_map suc o) ≡ None → cond b (Some x) (find p xs) ≡ None
    on true o before is = cc
    on false None before is = before refl
    on false (Some j) before is = cc

-- there is one just where one is found
pub place_there : {A : Type 0} (p : A → Bool) (xs : List A) → is_some (first_place p xs) ≡ is_some (find p xs)
place_there p [] = refl
place_there {A = A} p (x ∷ xs) = on (p x) (first_place p xs) (place_there p xs)
  where
    on : (b : Bool) (o : Option ℕ) → is_some o ≡ is_some (find p xs) → is_some (if b then Some 0 else option_map suc o) ≡ is_some (cond b (Some x) (find p xs))
    on true o is = refl
    on false None is = is
    on false (Some j) is = is

pub map_end : {A B : Type 0} (f : A → B) (xs : List A) (x : A) → map f (xs ++ x ∷ []) ≡ map f xs ++ f x ∷ []
map_end f [] x = refl
map_end f (y ∷ ys) x = ap (λ zs. f y ∷ zs) (map_end f ys x)

-- it is a place of the list
pub place_below : {A : Type 0} (p : A → Bool) (xs : List A) (i : ℕ) → first_place p xs ≡ Some i → i < length xs
place_below p [] i is = absurd (let none : None ≡ Some i = is in cc)
place_below {A = A} p (x ∷ xs) i is = on (p x) (first_place p xs) (place_below p xs) i is
  where
    on : (b : Bool) (o : Option ℕ) → ((j : ℕ) → o ≡ Some j → j < length xs) → (i : ℕ) → (if b then Some 0 else option_map suc o) ≡ Some i → i < suc (length xs)
    on true o before i is = let e : 0 ≡ i = cc in omega arith
    on false None before i is = absurd (let none : None ≡ Some i = is in cc)
    on false (Some j) before i is = let e : suc j ≡ i = cc in let below = before j refl in omega arith

-- without the last item, and its place
pub place_forgotten : {K A : Type 0} (eq : K → K → Bool) (is_of : K → A → Bool) (xs : List A) (x : A) (k : K) (old new : K → Option ℕ) (n : ℕ) → n ≡ length xs
    → ((q : K) → is_of q x ≡ eq k q) → ((q : K) → eq k q ≡ true → k ≡ q) → eq k k ≡ true → IsFirstPlaces is_of (xs ++ x ∷ []) old → ForgetsPlace eq old new k n → IsFirstPlaces is_of xs new
place_forgotten {K = K} {A = A} eq is_of xs x k old new n end same exact self is forgets q = on (first_place (is_of k) xs) refl
  where
    was : (j : K) → old j ≡ option_or (first_place (is_of j) xs) (if eq k j then Some (length xs) else None)
    was j = rw (is j, place_end (is_of j) xs x, same j) refl

    there : old k ≡ option_or (first_place (is_of k) xs) (Some (length xs))
    there = rw self at (was k)

    by : (b : Bool) → eq k q ≡ b → old q ≡ option_or (first_place (is_of q) xs) (if b then Some (length xs) else None)
    by b eqs = rw (was q, eqs) refl

    none_or : (o : Option ℕ) → option_or o None ≡ o
    none_or None = refl
    none_or (Some m) = refl

    gone : first_place (is_of k) xs ≡ None → (b : Bool) → eq k q ≡ b → (if b then None else old q) ≡ first_place (is_of q) xs
    gone none true eqs = subst (λ j. None ≡ first_place (is_of j) xs) (exact q eqs) (sym none)
    gone none false eqs = by false eqs ∙ none_or (first_place (is_of q) xs)

    stays : (m : ℕ) → first_place (is_of k) xs ≡ Some m → (b : Bool) → eq k q ≡ b → old q ≡ first_place (is_of q) xs
    stays m some true eqs = subst (λ j. old j ≡ first_place (is_of j) xs) (exact q eqs) (there ∙ (ap (λ o. option_or o (Some (length xs))) some ∙ sym some))
    stays m some false eqs = by false eqs ∙ none_or (first_place (is_of q) xs)

    on : (o : Option ℕ) → first_place (is_of k) xs ≡ o → new q ≡ first_place (is_of q) xs
    on None none = forgets.gone (there ∙ (ap (λ o. option_or o (Some (length xs))) none ∙ ap Some (sym end))) q ∙ gone none (eq k q) refl
    on (Some m) some =
        let below = place_below (is_of k) xs m some in
        forgets.stays (λ had. let both : Some m ≡ Some n = sym (there ∙ ap (λ o. option_or o (Some (length xs))) some) ∙ had in let one : m ≡ n = cc in omega arith) q ∙ stays m some (eq k q) refl

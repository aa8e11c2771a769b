-- How many items that pass stand behind one, by the places of those that pass.
use Rattle.std.proofs.Common.{◌≡◌, ℕ, zero, suc, ◌+◌, ◌-◌, ◌<◌, ◌≤◌, Bool, true, false, cond, List, [], ◌∷◌, length, filter, take, drop, get_or, map, refl, ap, sym, ◌∙◌, arith, inl, inr}
use Rattle.std.specs.Prelude.{nat_le, nat_lt, if◌then◌else◌}
use Rattle.std.proofs.lemmas.Bool.{cases_lt, le-leb, le-ltb, lt-leb, lt-ltb}
use Rattle.carte_table.specs.Places.{places}

length_later : (ns : List ℕ) → length (map suc ns) ≡ length ns
length_later [] = refl
length_later (n ∷ ns) = ap suc (length_later ns)

get_later : (ns : List ℕ) (j d : ℕ) → j < length ns → get_or (map suc ns) j d ≡ suc (get_or ns j d)
get_later [] j d below = absurd (omega (arith, below))
get_later (n ∷ ns) zero d below = refl
get_later (n ∷ ns) (suc j) d below = get_later ns j d (omega (arith, below))

count_places : {A : Type 0} (p : A → Bool) (xs : List A) → length (places p xs) ≡ length (filter p xs)
count_places p [] = refl
count_places {A = A} p (x ∷ xs) = on (p x) (length_later (places p xs) ∙ count_places p xs)
  where
    on : (b : Bool) → length (map suc (places p xs)) ≡ length (filter p xs)
        → length (if b then 0 ∷ map suc (places p xs) else map suc (places p xs)) ≡ length (cond b (x ∷ filter p xs) (filter p xs))
    on true is = ap suc is
    on false is = is

count_parts : {A : Type 0} (p : A → Bool) (xs : List A) (m : ℕ) → length (filter p xs) ≡ length (filter p (take m xs)) + length (filter p (drop m xs))
count_parts p xs zero = omega arith
count_parts p [] (suc m) = omega arith
count_parts {A = A} p (x ∷ xs) (suc m) = on (p x) (count_parts p xs m)
  where
    on : (b : Bool) → length (filter p xs) ≡ length (filter p (take m xs)) + length (filter p (drop m xs))
        → length (cond b (x ∷ filter p xs) (filter p xs)) ≡ length (cond b (x ∷ filter p (take m xs)) (filter p (take m xs))) + length (filter p (drop m xs))
    on true is = omega (arith, is)
    on false is = is

-- the places in front of one, and those from it on
places_before : {A : Type 0} (p : A → Bool) (xs : List A) (m j d : ℕ) → j < length (filter p (take m xs)) → get_or (places p xs) j d < m
places_before p xs zero j d below = absurd (omega (arith, below))
places_before p [] (suc m) j d below = absurd (omega (arith, below))
places_before {A = A} p (x ∷ xs) (suc m) j d below = on (p x) j (λ i is. places_before p xs m i d is) below
  where
    next : (i : ℕ) → i < length (filter p (take m xs)) → get_or (places p xs) i d < m → get_or (map suc (places p xs)) i d < suc m
    next i is before = omega (arith, before, get_later (places p xs) i d (omega (arith, is, count_places p xs, count_parts p xs m)))

    on : (b : Bool) (i : ℕ) → ((h : ℕ) → h < length (filter p (take m xs)) → get_or (places p xs) h d < m)
        → i < length (cond b (x ∷ filter p (take m xs)) (filter p (take m xs))) → get_or (if b then 0 ∷ map suc (places p xs) else map suc (places p xs)) i d < suc m
    on true zero rest is = omega arith
    on true (suc i) rest is = let less : i < length (filter p (take m xs)) = omega (arith, is) in next i less (rest i less)
    on false i rest is = next i is (rest i is)

places_behind : {A : Type 0} (p : A → Bool) (xs : List A) (m j d : ℕ) → length (filter p (take m xs)) ≤ j → j < length (places p xs) → m ≤ get_or (places p xs) j d
places_behind p xs zero j d many below = omega arith
places_behind p [] (suc m) j d many below = absurd (omega (arith, below))
places_behind {A = A} p (x ∷ xs) (suc m) j d many below = on (p x) j (λ i is there. places_behind p xs m i d is there) many below
  where
    next : (i : ℕ) → i < length (places p xs) → m ≤ get_or (places p xs) i d → suc m ≤ get_or (map suc (places p xs)) i d
    next i is behind = omega (arith, behind, get_later (places p xs) i d is)

    on : (b : Bool) (i : ℕ) → ((h : ℕ) → length (filter p (take m xs)) ≤ h → h < length (places p xs) → m ≤ get_or (places p xs) h d)
        → length (cond b (x ∷ filter p (take m xs)) (filter p (take m xs))) ≤ i → i < length (if b then 0 ∷ map suc (places p xs) else map suc (places p xs))
        → suc m ≤ get_or (if b then 0 ∷ map suc (places p xs) else map suc (places p xs)) i d
    on true zero rest is there = absurd (omega (arith, is))
    on true (suc i) rest is there =
        let less : i < length (places p xs) = omega (arith, there, length_later (places p xs)) in
        next i less (rest i (omega (arith, is)) less)
    on false i rest is there = let less : i < length (places p xs) = omega (arith, there, length_later (places p xs)) in next i less (rest i is less)

there_counts : {A : Type 0} (p : A → Bool) (xs : List A) (m : ℕ) (x : A) → m < length xs → x ≡ get_or xs m x → p x ≡ true → 0 < length (filter p (take (suc m) xs))
there_counts p [] m x below is passes = absurd (omega (arith, below))
there_counts {A = A} p (y ∷ ys) zero x below is passes = rw (sym (ap p is) ∙ passes) (omega arith)
there_counts {A = A} p (y ∷ ys) (suc m) x below is passes = on (p y) (there_counts p ys m x (omega (arith, below)) is passes)
  where
    on : (b : Bool) → 0 < length (filter p (take (suc m) ys)) → 0 < length (cond b (y ∷ filter p (take (suc m) ys)) (filter p (take (suc m) ys)))
    on true some = omega arith
    on false some = some

-- of an item that passes, by its place
module _ {A : Type 0} (p : A → Bool) (xs : List A) (at : ℕ) (x : A) (n : ℕ) (below : at < length xs) (is : x ≡ get_or xs at x) (passes : p x ≡ true) where
  ahead : at + 1 ≡ suc at
  ahead = omega arith

  some : 0 < length (filter p (take (at + 1) xs))
  some = rw ahead (there_counts p xs at x below is passes)

  counted : length (places p xs) ≡ length (filter p (take (at + 1) xs)) + length (filter p (drop (at + 1) xs))
  counted = count_places p xs ∙ count_parts p xs (at + 1)

  abbrev few : ℕ
  few = length (filter p (drop (at + 1) xs))

  pub few_behind : length (places p xs) ≤ n → true ≡ nat_lt (length (filter p (drop (at + 1) xs))) n
  few_behind is = sym (lt-ltb few n (omega (arith, some, counted, is)))

  abbrev place : ℕ
  place = get_or (places p xs) (length (places p xs) - n) 0

  pub by_place : n < length (places p xs) → 0 < n → nat_le (get_or (places p xs) (length (places p xs) - n) 0) at ≡ nat_lt (length (filter p (drop (at + 1) xs))) n
  by_place many positive = elim (cases_lt few n) [
    | inl less ↦
        let before : place < at + 1 = places_before p xs (at + 1) (length (places p xs) - n) 0 (omega (arith, counted, less, many)) in
        le-leb place at (omega (arith, before)) ∙ sym (lt-ltb few n less)
    | inr more ↦
        let behind : at + 1 ≤ place = places_behind p xs (at + 1) (length (places p xs) - n) 0 (omega (arith, counted, more)) (omega (arith, many, positive)) in
        lt-leb place at (omega (arith, behind)) ∙ sym (le-ltb few n more)
  ]
